-- A handle and its tree may go to another thread: what they own says the same on each.
use mir.Raw.{raw}
use base.Shift.{Keyless}
use denote.Memory.{lone}
use denote.RawPtr.{Ptr}
use denote.Struct.Declared.{shape}
use denote.Param.Send.{IsSend, owning_send, recorded_send, struct_send, view_send, sendable}
use Rattle.merkle_search_tree.specs.contracts.tree.MerkleSearchTree.TheInside as inside
use Rattle.std.specs.Global.{Global}
use Rattle.std.specs.declared.option.Option.{Option}
use Rattle.std.specs.declared.option.Option.TheVariants.{None, Some}
use Rattle.std.proofs.Crossing.{frees, Vec-send, Box-send}
use Rattle.merkle_search_tree.proofs.page.NodeOf.TheLaws.TheKnot.{send-PageOf}
use Rattle.std_alloc.proofs.SendSync.{lies}
use denote.RattleType.{RattleType}
use denote.Builtin.{u8, Array}
use denote.Param.{number}
use Rattle.core.specs.contracts.cmp.numbers.U8Eq.TheImpl as U8Eq
use Rattle.core.specs.contracts.cmp.numbers.U8Ord.TheImpl as U8Ord
use Rattle.core.specs.contracts.cmp.numbers.U8PartialEq.TheImpl as U8PartialEq
use Rattle.core.specs.contracts.cmp.numbers.U8PartialOrd.TheImpl as U8PartialOrd
use Rattle.std_alloc.specs.contracts.vec.Vec as Vec
use Rattle.std_alloc.specs.contracts.compared.VecOrd.TheImpl as ord
use Rattle.std_alloc.specs.contracts.vec.equals.VecPartialEq.TheImpl as eq
use Rattle.std_alloc.specs.contracts.compared.VecPartialOrd.TheImpl as part
use Rattle.std_heap.specs.contracts.Global as Heap
use Rattle.std_heap.specs.contracts.GlobalAllocator.TheImpl.{ghosts}
use Rattle.merkle_digest.specs.contracts.key_bytes.VecU8KeyBytes.TheImpl as keys
use Rattle.c_trees.specs.contracts.byte_hasher.ByteHasher as Hasher
use Rattle.c_trees.specs.contracts.byte_hasher.ByteHasherHasher16VecU8.TheImpl as hashes
use Rattle.std_heap.proofs.Global.TheSendSync as heap
use Rattle.core.proofs.option.Option.TheSendSync as option
use Rattle.merkle_digest.specs.contracts.wrappers.ValueDigest as ValueDigest
use Rattle.merkle_digest.proofs.wrappers.PageDigest.TheSendSync as page_digest
use Rattle.merkle_digest.proofs.wrappers.RootHash.TheSendSync as root_hash
use Rattle.merkle_digest.proofs.wrappers.ValueDigest.TheSendSync as value_digest
use Rattle.c_values.specs.Owned.{handle_owns}
use Rattle.mst_c.specs.Goes.{HandleGoes}
use Rattle.c_trees.specs.contracts.byte_tree.ByteTree as Tree
use Rattle.mst_c.specs.contracts.handle.MstTree.{the_type}

-- the keys, as a type
abbrev keys_row : RattleType
keys_row = Vec.the_row u8 Heap.the_row ghosts

-- each field of a tree goes, the pages by the law of their recursion
tree_goes : IsSend Tree.the_row
tree_goes =
    let inner = inside.the_type keys_row (Array u8 tt 16) Hasher.the_row (number 16)
    (ord.ghosts u8 Heap.the_row U8Ord.ghosts ord.no_dict U8Eq.ghosts ord.no_dict U8PartialEq.ghosts ord.no_dict U8PartialOrd.ghosts ord.no_dict ghosts
    ord.no_dict ord.no_dict) (eq.ghosts u8 Heap.the_row U8PartialEq.ghosts eq.no_dict ghosts eq.no_dict eq.no_dict)
    (part.ghosts u8 Heap.the_row U8PartialOrd.ghosts part.no_dict U8PartialEq.ghosts part.no_dict ghosts part.no_dict part.no_dict) keys.ghosts hashes.ghosts in
    recorded_send _ _ _ (Tree.the_type).to_one (struct_send (shape Tree.the_type) (
      view_send (inside.the_row keys_row (Array u8 tt 16) Hasher.the_row (number 16)
          (ord.ghosts u8 Heap.the_row U8Ord.ghosts ord.no_dict U8Eq.ghosts ord.no_dict U8PartialEq.ghosts ord.no_dict U8PartialOrd.ghosts ord.no_dict ghosts
          ord.no_dict ord.no_dict) (eq.ghosts u8 Heap.the_row U8PartialEq.ghosts eq.no_dict ghosts eq.no_dict eq.no_dict)
          (part.ghosts u8 Heap.the_row U8PartialOrd.ghosts part.no_dict U8PartialEq.ghosts part.no_dict ghosts part.no_dict part.no_dict) keys.ghosts
          hashes.ghosts) _ _ _ _ (recorded_send _ _ _ inner.to_one
          (struct_send (shape inner) (
            heap.the_field_send,
            (
              search sendable depth 10,
              (
                search sendable depth 10,
                (
                  search sendable depth 10,
                  (
                    send-PageOf keys_row (ValueDigest.the_row (number 16)) (Vec-send u8 (search sendable)) (value_digest.the_send (number 16))
                        (λ h goes. option.the_send _ (Box-send h goes)) (search sendable) (option.the_send _ page_digest.the_send) (λ h goes. Vec-send h goes),
                    (option.the_field_send _ root_hash.the_send, (search sendable depth 10, tt)),
                  ),
                ),
              ),
            ),
          ))),
      (search sendable depth 10, (search sendable depth 10, tt)),
    ))

owned_by : (alloc : Global) (ptr : Ptr) (tree : Option Tree.the_row.Denot) → Keyless (handle_owns Tree.the_row alloc ptr tree)
owned_by alloc ptr None = λ _. tt
owned_by alloc ptr (Some tree) = (lies Tree.the_row tree_goes ptr tree, frees.frees alloc (raw (lone Tree.the_row.mir)) ptr)

pub handle_goes : HandleGoes
handle_goes = owning_send the_type (search sendable) (λ d. owned_by d.alloc d.ptr d.tree) (λ k x w. tt)
