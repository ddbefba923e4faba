-- What is done with a reply is what is done with the rows that came.
use Rattle.std.proofs.Common.{◌≡◌, ◌≢◌, ℕ, List, ap, subst, sym, ◌∙◌, None}
use Rattle.std.specs.Global.{Vec}
use Rattle.c_rows.specs.declared.value.ByteValue.{ByteValue}
use Rattle.merkle_tree_theory.specs.State.{SameSettings, map_of}
use Rattle.merkle_wire.specs.declared.catching_up.Next.TheVariants.{Came}
use Rattle.c_sides.specs.Calls.{HasTaken, IsDropped, IsKeptOf, IsOver, IsTaken, SameTree}
use Rattle.c_sides.specs.declared.byte_sync.ByteSync.{ByteSync}
use Rattle.c_sides.specs.declared.byte_sync.Taken.{Taken}
use Rattle.c_sides.specs.declared.byte_sync.Taken.TheVariants.{Asks, Kept, Lost, Failed}

module _ (old mid new : ByteSync) (under_way : old.session ≢ None) (same : SameTree old mid) (list : mid.list ≡ old.list) (over : IsOver mid) where
  pub kept_taken : (reply : List ℕ) (rows : Vec (Vec ℕ × ByteValue)) (taken : Taken) → HasTaken reply (Came rows) old → IsKeptOf rows.items taken mid new
      → IsTaken reply taken old new
  kept_taken reply rows Asks came keeps = absurd keeps
  kept_taken reply rows Kept came keeps = record {
    rows = rows;
    taken = came;
    list = keeps.0;
    same = record {
      map = ap map_of keeps.1 ∙ same.map;
      settings = subst (λ tree. SameSettings old.tree tree) (sym keeps.1) same.settings;
    };
    over = (keeps.2 ∙ over.0, ap (λ message. message.items) keeps.3 ∙ over.1);
  }
  kept_taken reply rows Lost came keeps =
      subst (λ after. IsDropped old after) (sym keeps) (record { under_way = under_way; same = same; list = list; over = over })
  kept_taken reply rows (Failed status) came keeps = absurd keeps
