-- The map of a tree by the bytes of its keys, beside its map by the keys themselves.
use Rattle.std.proofs.Common.{◌≡◌, ℕ, Bool, true, false, cond, not, ◌||◌, List, [], ◌∷◌, map, refl, sym, ap, subst, ◌∙◌, Option, Some, None, Equal}
use Rattle.std.proofs.lemmas.Bool.{false_from_ne_true, true_from_ne_false}
use Rattle.std.specs.Global.{Vec}
use Rattle.std.specs.Ordering.{is_eq, match_ordering}
use Rattle.std.specs.declared.cmp.Ordering.{Ordering}
use Rattle.std.specs.declared.cmp.Ordering.TheVariants.{Less, Greater}
use Rattle.key_order.specs.Map.{get, set, del, has_key, entry, IsPresent}
use Rattle.key_order.proofs.Dels.{entry-there, entry-absent}
use Rattle.merkle_tree_theory.specs.State.{State, SameSettings, map_of}
use Rattle.c_values.specs.Keys.{bytes_cmp, key_cmp, by_key, pairs_of}
use Rattle.c_values.specs.Trees.{IsDel}

abbrev pub Pair : Type 0
Pair = Vec ℕ × List ℕ

map_choice : (o : Ordering) (a b c : List Pair) → map by_key (match_ordering o a b c) ≡ match_ordering o (map by_key a) (map by_key b) (map by_key c)
map_choice Less a b c = refl
map_choice Equal a b c = refl
map_choice Greater a b c = refl

map_kept : (b : Bool) (r : Pair) (rs : List Pair) → map by_key (cond b (r ∷ rs) rs) ≡ cond b (by_key r ∷ map by_key rs) (map by_key rs)
map_kept true r rs = refl
map_kept false r rs = refl

pub pairs_set : (m : List Pair) (k : Vec ℕ) (d : List ℕ) → map by_key (set key_cmp m k d) ≡ set bytes_cmp (map by_key m) k.items d
pairs_set [] k d = refl
pairs_set (r ∷ rs) k d =
    map_choice (key_cmp k r.0) ((k, d) ∷ r ∷ rs) ((r.0, d) ∷ rs) (r ∷ set key_cmp rs k d)
    ∙ ap (λ t. match_ordering (key_cmp k r.0) (by_key (k, d) ∷ by_key r ∷ map by_key rs) (by_key (r.0, d) ∷ map by_key rs) (by_key r ∷ t)) (pairs_set rs k d)

pub pairs_del : (m : List Pair) (k : Vec ℕ) → map by_key (del key_cmp m k) ≡ del bytes_cmp (map by_key m) k.items
pairs_del [] k = refl
pairs_del (r ∷ rs) k =
    let keep = not (is_eq (key_cmp k r.0)) in
    map_kept keep r (del key_cmp rs k) ∙ ap (λ t. cond keep (by_key r ∷ t) t) (pairs_del rs k)

pub pairs_have : (m : List Pair) (k : Vec ℕ) → has_key key_cmp m k ≡ has_key bytes_cmp (map by_key m) k.items
pairs_have [] k = refl
pairs_have (r ∷ rs) k = ap (λ b. is_eq (key_cmp k r.0) || b) (pairs_have rs k)

pub pairs_get : (m : List Pair) (k : Vec ℕ) → get key_cmp m k ≡ get bytes_cmp (map by_key m) k.items
pairs_get [] k = refl
pairs_get (r ∷ rs) k = ap (cond (is_eq (key_cmp r.0 k)) (Some r.1)) (pairs_get rs k)

-- a key without an entry isn't there, and one with an entry is
pub absent : (m : List Pair) (k : Vec ℕ) → entry key_cmp m k ≡ None → false ≡ has_key bytes_cmp (map by_key m) k.items
absent m k none = sym (false_from_ne_true (has_key key_cmp m k) (λ there. entry-there key_cmp k m there none)) ∙ pairs_have m k

pub present : (m : List Pair) (k : Vec ℕ) (found : Pair) → entry key_cmp m k ≡ Some found → true ≡ has_key bytes_cmp (map by_key m) k.items
present m k found some =
    sym (true_from_ne_false (has_key key_cmp m k) (λ no. subst IsPresent (sym some ∙ entry-absent key_cmp k m no) tt)) ∙ pairs_have m k

-- a key that is taken out, by its bytes
module _ {H : Type 0} (old new : State (Vec ℕ) H) (k : Vec ℕ) (key : List ℕ) (same : k.items ≡ key) (gone : map_of new ≡ del key_cmp (map_of old) k)
    (settings : SameSettings old new) where
  gone_by_bytes : pairs_of new ≡ del bytes_cmp (pairs_of old) key
  gone_by_bytes = ap (map by_key) gone ∙ pairs_del (map_of old) k ∙ ap (del bytes_cmp (pairs_of old)) same

  pub del_absent : entry key_cmp (map_of old) k ≡ None → IsDel key false old new
  del_absent none = record {
    rows = gone_by_bytes;
    answer = absent (map_of old) k none ∙ ap (has_key bytes_cmp (pairs_of old)) same;
    settings = settings;
  }

  pub del_present : (found : Pair) → entry key_cmp (map_of old) k ≡ Some found → IsDel key true old new
  del_present found some = record {
    rows = gone_by_bytes;
    answer = present (map_of old) k found some ∙ ap (has_key bytes_cmp (pairs_of old)) same;
    settings = settings;
  }

-- what is found at a key, by its bytes
pub found_by_bytes : {H : Type 0} (tree : State (Vec ℕ) H) (k : Vec ℕ) (key : List ℕ) (found : Option (List ℕ)) → k.items ≡ key
    → found ≡ get key_cmp (map_of tree) k → found ≡ get bytes_cmp (pairs_of tree) key
found_by_bytes tree k key found same at = at ∙ pairs_get (map_of tree) k ∙ ap (get bytes_cmp (pairs_of tree)) same
