use Rattle.std.proofs.Common.{rules, ◌≡◌, ℕ, ◌+◌, ◌<◌, ◌≤◌, ◌++◌, ◌∷◌, [], List, length, map, take, get_or, slice_set, sum_by, Option, Some, None, arith, ap, sym, subst, ◌∙◌, refl, append-nil, append_assoc}
use Rattle.std.specs.List.{flat_map}
use Rattle.std.proofs.lemmas.List.{take_all, drop_all, take_more, flat_map_more}
use Rattle.std.proofs.lemmas.List.Edits.{map_over_more}
use Rattle.std.proofs.lemmas.List.Sums.{sum_by_more}
use Rattle.std.specs.declared.boxed.Box.{Box}
use Rattle.std.specs.declared.alloc.Global.{Global}
use Rattle.merkle_digest.specs.SipHash.{siphash128, zero_key}
use Rattle.merkle_digest.specs.Sip24.{Holds}
use Rattle.merkle_digest.specs.declared.siphash.Sip24.{Sip24}
use Rattle.merkle_tree_theory.specs.Tree.{Tree, page, row, Held, Node, held_of, tree_size, held_size, row_size}
use Rattle.merkle_tree_theory.specs.Page.{cache}
use Rattle.merkle_tree_theory.specs.Stream.{page_digest, stream_of, held_stream, row_stream, head_bytes, key_bytes}
use Rattle.merkle_tree_theory.specs.declared.page_format.PageFormat.{PageFormat}
use Rattle.merkle_tree_theory.specs.Cache.{HeldCachesHold, uncached_pages, held_uncached_pages, one_without, tree_with_digests, held_with_digests}
use Rattle.merkle_tree_theory.proofs.Rows.{row_nodes-row, size_at, size_high}
use Rattle.merkle_tree_theory.proofs.UpsertForm.{none_missing}
use Rattle.merkle_tree_theory.proofs.FillingDigests.{node_filled, node_stream, node_missing, row_missing-row, row_filled-row, row_stream-row, caches_at, caches_high, row_of_caches, filled_of_caches, reads_old}
use Rattle.merkle_search_tree.proofs.hash.+fill.Goals as goal

pub Page+N+K::fill-returns-in-Some-clause-pages : goal.Page+N+K::fill-returns-in-Some-clause-pages
Page+N+K::fill-returns-in-Some-clause-pages g t c =
    let s = c.self.inside in
    let e = ap (λ o. page s.level o (row s.nodes.items (held_of s.high_page))) (sym c.in-Some.is) ∙ c.self.view_is in
    (filled_of_caches c.args.format g.K.KeyBytes.bytes_of s.level c.in-Some.digest (row s.nodes.items (held_of s.high_page)) c.args.self.now e c.requires).0

pub Page+N+K::fill-returns-in-Some-clause-count : goal.Page+N+K::fill-returns-in-Some-clause-count
Page+N+K::fill-returns-in-Some-clause-count g t c =
    let none : uncached_pages c.args.self.now ≡ 0 = none_missing c.args.format g.K.KeyBytes.bytes_of c.args.self.now c.in-Some.digest (ap cache (sym c.self.view_is) ∙ c.in-Some.is) c.requires in
    omega (arith, none)

pub Page+N+K::fill-nodes-init : goal.Page+N+K::fill-nodes-init
Page+N+K::fill-nodes-init g t c =
    let s = c.self.inside in
    let n : c.len.result ≡ length s.nodes.items = omega (arith, c.len.ensures, s.nodes.ok.0) in
    let e = c.len-i-end.ensures in
    let head = c.write_head.ensures zero_key [] c.new-sip.ensures in
    let holds : Holds c.write_head.new.sip zero_key (head_bytes c.args.format s.level (length s.nodes.items) ++ []) =
    subst (λ m. Holds c.write_head.new.sip zero_key (head_bytes c.args.format s.level m ++ [])) n (subst (Holds c.write_head.new.sip zero_key) (sym (append-nil _)) head) in
    (refl, holds, refl, refl, refl, omega (arith, s.nodes.ok.0))

pub Page+N+K::fill-fill_below-requires : goal.Page+N+K::fill-fill_below-requires
Page+N+K::fill-fill_below-requires g t c κs within =
    let s = c.self.inside in
    let inv = c.nodes.invariant in
    let r : c.nodes.i < length s.nodes.items = omega (arith, c.nodes-test.true, inv.5) in
    let rows = row_of_caches c.args.format g.K.KeyBytes.bytes_of s.level s.tree_hash (row s.nodes.items (held_of s.high_page)) c.args.self.now c.self.view_is c.requires in
    let old = reads_old (node_filled c.args.format g.K.KeyBytes.bytes_of) s.nodes.items c.nodes.self-inside.nodes.items c.nodes.i c.index_mut-node.result.now r inv.0 c.index_mut-node.ensures.value in
    let holds : HeldCachesHold c.args.format g.K.KeyBytes.bytes_of (held_of c.node.inside.lt_pointer) =
    subst (λ (e : Node g.row.K.Denot (List ℕ)). HeldCachesHold c.args.format g.K.KeyBytes.bytes_of e.lt) (sym (c.node.view_is ∙ old))
    (caches_at c.args.format g.K.KeyBytes.bytes_of s.nodes.items (held_of s.high_page) rows c.nodes.i c.index_mut-node.result.now r) in
    let small = size_at s.nodes.items (held_of s.high_page) c.nodes.i c.index_mut-node.result.now r in
    let same : held_size (held_of c.node.inside.lt_pointer) ≡ held_size (get_or s.nodes.items c.nodes.i c.index_mut-node.result.now).lt =
    ap (λ (e : Node g.row.K.Denot (List ℕ)). held_size e.lt) (c.node.view_is ∙ old) in
    let whole : row_size (row s.nodes.items (held_of s.high_page)) + 1 ≡ tree_size c.args.self.now = omega (arith, ap tree_size c.self.view_is) in
    (omega (arith, small, same, whole, c.decreases), (search rules, (search rules, (search rules, holds))))

-- the message with the stream of one more node
step : {K : Type 0} (format : PageFormat) (b : K → List ℕ) (head : List ℕ) (es : List (Node K (List ℕ))) (i : ℕ) (sip : Sip24) (x : Node K (List ℕ)) → i < length es → x ≡ get_or es i x
    → Holds sip zero_key ((((head ++ flat_map (node_stream format b) (take i es)) ++ held_stream format b x.lt) ++ key_bytes format (b x.key)) ++ x.digest)
    → Holds sip zero_key (head ++ flat_map (node_stream format b) (take (i + 1) es))
step format b head es i sip x r e h =
    let f = flat_map (node_stream format b) (take i es) in
    let joined : (((head ++ f) ++ held_stream format b x.lt) ++ key_bytes format (b x.key)) ++ x.digest ≡ head ++
    (f ++ (held_stream format b x.lt ++ key_bytes format (b x.key) ++ x.digest)) = simp append_assoc in
    let more = flat_map_more (node_stream format b) [] (take i es) x ∙ ap (flat_map (node_stream format b)) (ap (λ y. take i es ++ y ∷ []) e ∙ sym (take_more es i x r)) in
    subst (Holds sip zero_key) (joined ∙ ap (λ v. head ++ v) more) h

pub Page+N+K::fill-nodes-preserved : goal.Page+N+K::fill-nodes-preserved
Page+N+K::fill-nodes-preserved g t c =
    let s = c.self.inside in
    let b = g.K.KeyBytes.bytes_of in
    let format = c.args.format in
    let inv = c.nodes.invariant in
    let i = c.nodes.i in
    let r : i < length s.nodes.items = omega (arith, c.nodes-test.true, inv.5) in
    let n = c.node.inside in
    let with_lt : Held g.row.K.Denot (List ℕ) → Node g.row.K.Denot (List ℕ) = λ v. record { lt = v; key = n.key; digest = n.value_hash } in
    let new = ap with_lt c.fill_below.ensures.pages ∙ ap (node_filled format b) c.node.view_is in
    let old = reads_old (node_filled format b) s.nodes.items c.nodes.self-inside.nodes.items i c.index_mut-node.result.now r inv.0 c.index_mut-node.ensures.value in
    let x : Node g.row.K.Denot (List ℕ) = record { lt = held_of n.lt_pointer; key = n.key; digest = n.value_hash } in
    let is : x ≡ get_or s.nodes.items i x = c.node.view_is ∙ old ∙ ap (get_or s.nodes.items i) (sym c.node.view_is) in
    let head = head_bytes format s.level (length s.nodes.items) in
    let before = (head ++ flat_map (node_stream format b) (take i s.nodes.items)) ++ held_stream format b x.lt in
    let written = c.write.ensures zero_key _ (c.write_key.ensures zero_key _ (c.fill_below.ensures.bytes zero_key _ inv.1)) in
    let holds : Holds c.write.new.self zero_key ((before ++ key_bytes format (b n.key)) ++ n.value_hash) =
    subst (λ ks. Holds c.write.new.self zero_key ((before ++ key_bytes format ks) ++ n.value_hash)) c.key_bytes.ensures
    (subst (λ ds. Holds c.write.new.self zero_key ((before ++ key_bytes format c.key_bytes.result.now) ++ ds)) c.as_bytes-in-nodes.ensures written) in
    let more = sum_by_more node_missing s.nodes.items i x r in
    let here : held_uncached_pages x.lt ≡ held_uncached_pages (get_or s.nodes.items i x).lt = ap (λ (e : Node g.row.K.Denot (List ℕ)). held_uncached_pages e.lt) is in (
      ap (slice_set c.nodes.self-inside.nodes.items i) new ∙ map_over_more (node_filled format b) _ _ i _ r inv.0 c.index_mut-node.ensures.value,
      step format b head s.nodes.items i c.write.new.self x r is holds,
      omega (arith, c.saturating_add-hashed.ensures, c.fill_below.ensures.count, inv.2, more, here),
      inv.3,
      inv.4,
      inv.5,
    )

pub Page+N+K::fill-fill_below-requires-2 : goal.Page+N+K::fill-fill_below-requires-2
Page+N+K::fill-fill_below-requires-2 g t c κs within =
    let s = c.self.inside in
    let inv = c.nodes.invariant in
    let rows = row_of_caches c.args.format g.K.KeyBytes.bytes_of s.level s.tree_hash (row s.nodes.items (held_of s.high_page)) c.args.self.now c.self.view_is c.requires in
    let holds : HeldCachesHold c.args.format g.K.KeyBytes.bytes_of (held_of c.nodes.self-inside.high_page) =
    subst (λ o. HeldCachesHold c.args.format g.K.KeyBytes.bytes_of (held_of o)) (sym inv.4) (caches_high c.args.format g.K.KeyBytes.bytes_of s.nodes.items (held_of s.high_page) rows) in
    let small = size_high s.nodes.items (held_of s.high_page) in
    let same : held_size (held_of c.nodes.self-inside.high_page) ≡ held_size (held_of s.high_page) = ap (λ o. held_size (held_of o)) inv.4 in
    let whole : row_size (row s.nodes.items (held_of s.high_page)) + 1 ≡ tree_size c.args.self.now = omega (arith, ap tree_size c.self.view_is) in
    (omega (arith, small, same, whole, c.decreases), (search rules, (search rules, (search rules, holds))))

-- what was written is the stream of the page
whole : {K : Type 0} (format : PageFormat) (b : K → List ℕ) (l : ℕ) (c : Option (List ℕ)) (es : List (Node K (List ℕ))) (g h : Option (Box (Tree K (List ℕ)) Global)) (i : ℕ) → length es ≤ i → g ≡ h
    → (head_bytes format l (length es) ++ flat_map (node_stream format b) (take i es)) ++ held_stream format b (held_of g) ≡ stream_of format b (page l c (row es (held_of h)))
whole format b l c es g h i r e =
    append_assoc (head_bytes format l (length es)) (flat_map (node_stream format b) (take i es)) (held_stream format b (held_of g))
    ∙ ap (λ v. head_bytes format l (length es) ++ v) ((λ j. flat_map (node_stream format b) (take_all i es r j) ++ held_stream format b (held_of (e j))) ∙ sym (row_stream-row format b es (held_of h)))
    ∙ ap (λ ns. head_bytes format l (length ns) ++ row_stream format b (row es (held_of h))) (sym (row_nodes-row es (held_of h)))

-- one page lacks a digest where there is none
is_one : (o : Option (List ℕ)) → ((d : List ℕ) → o ≡ Some d → ⊥) → one_without o ≡ 1
is_one None n = refl
is_one (Some d) n = absurd (n d refl)

pub Page+N+K::fill-returns-clause-digest : goal.Page+N+K::fill-returns-clause-digest
Page+N+K::fill-returns-clause-digest g t c =
    let s = c.self.inside in
    let b = g.K.KeyBytes.bytes_of in
    let format = c.args.format in
    let inv = c.nodes.invariant in
    let r : length s.nodes.items ≤ c.nodes.i = omega (arith, c.nodes-test.false, inv.5) in
    let stream = whole format b s.level s.tree_hash s.nodes.items c.nodes.self-inside.high_page s.high_page c.nodes.i r inv.4 in
    c.new-3.ensures ∙ c.finish128-bytes.ensures zero_key _ (c.fill_below-2.ensures.bytes zero_key _ inv.1) ∙ ap (siphash128 zero_key) stream ∙ ap (page_digest format b) c.self.view_is

pub Page+N+K::fill-returns-clause-pages : goal.Page+N+K::fill-returns-clause-pages
Page+N+K::fill-returns-clause-pages g t c =
    let s = c.self.inside in
    let b = g.K.KeyBytes.bytes_of in
    let format = c.args.format in
    let inv = c.nodes.invariant in
    let r : length s.nodes.items ≤ c.nodes.i = omega (arith, c.nodes-test.false, inv.5) in
    let stream = whole format b s.level s.tree_hash s.nodes.items c.nodes.self-inside.high_page s.high_page c.nodes.i r inv.4 in
    let digest_is : c.new-2.result ≡ page_digest format b (page s.level s.tree_hash (row s.nodes.items (held_of s.high_page))) =
    c.new-2.ensures ∙ c.finish128-bytes.ensures zero_key _ (c.fill_below-2.ensures.bytes zero_key _ inv.1) ∙ ap (siphash128 zero_key) stream in
    let all = ap (map (node_filled format b)) (take_all c.nodes.i s.nodes.items r) in
    let none = drop_all c.nodes.i s.nodes.items r in
    let items : c.nodes.self-inside.nodes.items ≡ map (node_filled format b) s.nodes.items = rw (inv.0, all, none) (append-nil _) in
    let high_is : held_of c.fill_below-2.new.held ≡ held_with_digests format b (held_of s.high_page) = c.fill_below-2.ensures.pages ∙ ap (λ o. held_with_digests format b (held_of o)) inv.4 in
    simp (inv.3, digest_is, items, high_is)
    (ap (page s.level (Some (page_digest format b (page s.level s.tree_hash (row s.nodes.items (held_of s.high_page))))))
    (sym (row_filled-row format b s.nodes.items (held_of s.high_page))) ∙ ap (tree_with_digests format b) c.self.view_is)

pub Page+N+K::fill-returns-clause-count : goal.Page+N+K::fill-returns-clause-count
Page+N+K::fill-returns-clause-count g t c =
    let s = c.self.inside in
    let inv = c.nodes.invariant in
    let r : length s.nodes.items ≤ c.nodes.i = omega (arith, c.nodes-test.false, inv.5) in
    let one = is_one s.tree_hash (λ d e. c.in_default.not-Some d e) in
    let all : uncached_pages c.args.self.now ≡ one_without s.tree_hash + (sum_by node_missing s.nodes.items + held_uncached_pages (held_of s.high_page)) =
    ap uncached_pages (sym c.self.view_is) ∙ ap (λ n. one_without s.tree_hash + n) (row_missing-row s.nodes.items (held_of s.high_page)) in
    let sum : sum_by node_missing (take c.nodes.i s.nodes.items) ≡ sum_by node_missing s.nodes.items = ap (sum_by node_missing) (take_all c.nodes.i s.nodes.items r) in
    let high_is : held_uncached_pages (held_of c.nodes.self-inside.high_page) ≡ held_uncached_pages (held_of s.high_page) = ap (λ o. held_uncached_pages (held_of o)) inv.4 in
    omega (arith, c.saturating_add-hashed-2.ensures, c.fill_below-2.ensures.count, inv.2, sum, high_is, one, all)

pub fill_below-returns-in-None-clause-bytes : goal.fill_below-returns-in-None-clause-bytes
fill_below-returns-in-None-clause-bytes g t c =
    λ key written h. rw c.in-None.is (c.write_none.ensures key written h)
