-- Keys that are inserted and removed, and their extents.
use Rattle.std.proofs.Common.{inl, inr, ◌≡◌, ◌≢◌, ℕ, zero, suc, ◌<◌, false, List, [], ◌∷◌, length, map, get_or, set}
use Rattle.std.proofs.Common.{insert, remove, Option, Some, None, IsSome, refl, sym, ap, ◌∙◌, arith, subst}
use Rattle.std.specs.List.{All}
use Rattle.std.specs.Option.{unwrap_or}
use Rattle.std.proofs.lemmas.Bool.{cases_eq}
use Rattle.std.proofs.lemmas.List.Elements.{All-nil, All-cons, All-head, All-tail}
use Rattle.slab.specs.Slab.{Slab, get, ContainsKey, Updates}
use Rattle.iol_extent.specs.Extents.{Extent, extent_of}
use Rattle.iol_extent.specs.Keys.{AreDistinct, AreKeys, IsNotIn, extent_at}
use Rattle.iol_extent.proofs.Every.{each_insert, each_remove}

none_some : (o : Option Extent) → o ≡ None → IsSome o → ⊥
none_some None e h = cc
none_some (Some x) e h = cc

-- Keys that are not in a list.

pub not_in_insert : (x : ℕ) (ks : List ℕ) (i key : ℕ) → IsNotIn x ks → key ≢ x → IsNotIn x (insert ks i key)
not_in_insert x ks i key n d = each_insert (λ (other : ℕ). other ≢ x) ks i key n d

pub not_in_remove : (x : ℕ) (ks : List ℕ) (i : ℕ) → IsNotIn x ks → IsNotIn x (remove ks i)
not_in_remove x ks i n = each_remove (λ (other : ℕ). other ≢ x) ks i n

not_in_at : (x : ℕ) (ks : List ℕ) (i d : ℕ) → IsNotIn x ks → i < length ks → get_or ks i d ≢ x
not_in_at x [] i d n l = absurd (omega (arith, l))
not_in_at x (k ∷ ks) zero d n l = n.0
not_in_at x (k ∷ ks) (suc i) d n l = not_in_at x ks i d n.1 (omega (arith, l))

-- a key without an extent is not among those that have one
pub not_in_vacant : (s : Slab Extent) (ks : List ℕ) (key : ℕ) → get s key ≡ None → All (ContainsKey s) ks
    → IsNotIn key ks
not_in_vacant s [] key none live = tt
not_in_vacant s (k ∷ ks) key none live = (
  (λ same. none_some (get s k) (ap (get s) same ∙ none) (All-head (ContainsKey s) k ks live)),
  not_in_vacant s ks key none (All-tail (ContainsKey s) k ks live),
)

-- a removed key is no longer in the list
pub not_in_rest : (ks : List ℕ) (i d : ℕ) → AreDistinct ks → i < length ks → IsNotIn (get_or ks i d) (remove ks i)
not_in_rest [] i d a l = absurd (omega (arith, l))
not_in_rest (k ∷ ks) zero d a l = a.0
not_in_rest (k ∷ ks) (suc i) d a l =
    ((λ same. not_in_at k ks i d a.0 (omega (arith, l)) (sym same)), not_in_rest ks i d a.1 (omega (arith, l)))

-- Each key occurs once.

distinct_insert : (ks : List ℕ) (i key : ℕ) → AreDistinct ks → IsNotIn key ks → AreDistinct (insert ks i key)
distinct_insert [] zero key a n = (tt, tt)
distinct_insert [] (suc i) key a n = (tt, tt)
distinct_insert (k ∷ ks) zero key a n = (n, a)
distinct_insert (k ∷ ks) (suc i) key a n =
    (not_in_insert k ks i key a.0 (λ same. n.0 (sym same)), distinct_insert ks i key a.1 n.1)

distinct_remove : (ks : List ℕ) (i : ℕ) → AreDistinct ks → AreDistinct (remove ks i)
distinct_remove [] zero a = tt
distinct_remove [] (suc i) a = tt
distinct_remove (k ∷ ks) zero a = a.1
distinct_remove (k ∷ ks) (suc i) a = (not_in_remove k ks i a.0, distinct_remove ks i a.1)

-- Each key has an extent.

live_insert : (s : Slab Extent) (ks : List ℕ) (i key : ℕ) → All (ContainsKey s) ks → ContainsKey s key
    → All (ContainsKey s) (insert ks i key)
live_insert s [] zero key live here = All-cons (ContainsKey s) key [] here (All-nil (ContainsKey s))
live_insert s [] (suc i) key live here = All-cons (ContainsKey s) key [] here (All-nil (ContainsKey s))
live_insert s (k ∷ ks) zero key live here = All-cons (ContainsKey s) key (k ∷ ks) here live
live_insert s (k ∷ ks) (suc i) key live here =
    All-cons (ContainsKey s) k (insert ks i key) (All-head (ContainsKey s) k ks live)
    (live_insert s ks i key (All-tail (ContainsKey s) k ks live) here)

live_remove : (s : Slab Extent) (ks : List ℕ) (i : ℕ) → All (ContainsKey s) ks → All (ContainsKey s) (remove ks i)
live_remove s [] zero live = All-nil (ContainsKey s)
live_remove s [] (suc i) live = All-nil (ContainsKey s)
live_remove s (k ∷ ks) zero live = All-tail (ContainsKey s) k ks live
live_remove s (k ∷ ks) (suc i) live =
    All-cons (ContainsKey s) k (remove ks i) (All-head (ContainsKey s) k ks live)
    (live_remove s ks i (All-tail (ContainsKey s) k ks live))

-- a key that is not in the list changes
live_others : (s t : Slab Extent) (ks : List ℕ) (key : ℕ) (slot : Option Extent) → Updates s t key slot → IsNotIn key ks
    → All (ContainsKey s) ks → All (ContainsKey t) ks
live_others s t [] key slot u n live = All-nil (ContainsKey t)
live_others s t (k ∷ ks) key slot u n live =
    All-cons (ContainsKey t) k ks
    (subst (λ (o : Option Extent). IsSome o) (sym (u.others k n.0)) (All-head (ContainsKey s) k ks live))
    (live_others s t ks key slot u n.1 (All-tail (ContainsKey s) k ks live))

live_changed : (s t : Slab Extent) (ks : List ℕ) (key : ℕ) (e : Extent) → Updates s t key (Some e)
    → All (ContainsKey s) ks → All (ContainsKey t) ks
live_changed s t [] key e u live = All-nil (ContainsKey t)
live_changed s t (k ∷ ks) key e u live =
    All-cons (ContainsKey t) k ks here (live_changed s t ks key e u (All-tail (ContainsKey s) k ks live))
  where
    here : ContainsKey t k
    here = elim (cases_eq k key) [
      | inl same ↦ subst (λ (o : Option Extent). IsSome o) (sym (ap (get t) same ∙ u.changed)) refl
      | inr other ↦
          subst (λ (o : Option Extent). IsSome o) (sym (u.others k other)) (All-head (ContainsKey s) k ks live)
    ]

-- The extents at the keys.

extents_others : (s t : Slab Extent) (ks : List ℕ) (key : ℕ) (slot : Option Extent) → Updates s t key slot
    → IsNotIn key ks → map (extent_at t) ks ≡ map (extent_at s) ks
extents_others s t [] key slot u n = refl
extents_others s t (k ∷ ks) key slot u n =
    let here : extent_at t k ≡ extent_at s k =
    ap (λ (o : Option Extent). unwrap_or o (extent_of 0 [] false)) (u.others k n.0) in
    ap (λ (e : Extent). e ∷ map (extent_at t) ks) here
    ∙ ap (λ (es : List Extent). extent_at s k ∷ es) (extents_others s t ks key slot u n.1)

map_insert : (f : ℕ → Extent) (ks : List ℕ) (i key : ℕ) → map f (insert ks i key) ≡ insert (map f ks) i (f key)
map_insert f [] zero key = refl
map_insert f [] (suc i) key = refl
map_insert f (k ∷ ks) zero key = refl
map_insert f (k ∷ ks) (suc i) key = ap (λ (es : List Extent). f k ∷ es) (map_insert f ks i key)

map_remove : (f : ℕ → Extent) (ks : List ℕ) (i : ℕ) → map f (remove ks i) ≡ remove (map f ks) i
map_remove f [] zero = refl
map_remove f [] (suc i) = refl
map_remove f (k ∷ ks) zero = refl
map_remove f (k ∷ ks) (suc i) = ap (λ (es : List Extent). f k ∷ es) (map_remove f ks i)

pub there : (s : Slab Extent) (key : ℕ) (e : Extent) → get s key ≡ Some e → extent_at s key ≡ e
there s key e is = ap (λ (o : Option Extent). unwrap_or o (extent_of 0 [] false)) is

pub extent_there : (s : Slab Extent) (ks : List ℕ) (i key : ℕ) (d : Extent) → i < length ks → key ≡ get_or ks i key
    → get_or (map (extent_at s) ks) i d ≡ extent_at s key
extent_there s [] i key d l is = absurd (omega (arith, l))
extent_there s (k ∷ ks) zero key d l is = ap (extent_at s) (sym is)
extent_there s (k ∷ ks) (suc i) key d l is = extent_there s ks i key d (omega (arith, l)) is

-- An extent is inserted.

pub keys_put : (s t : Slab Extent) (ks : List ℕ) (i key : ℕ) (e : Extent) → Updates s t key (Some e) → get s key ≡ None
    → AreKeys s ks → AreKeys t (insert ks i key)
keys_put s t ks i key e u none a =
    let apart = not_in_vacant s ks key none a.live in
    record {
      live =
          live_insert t ks i key (live_others s t ks key (Some e) u apart a.live)
          (subst (λ (o : Option Extent). IsSome o) (sym u.changed) refl);
      distinct = distinct_insert ks i key a.distinct apart;
    }

pub extents_put : (s t : Slab Extent) (ks : List ℕ) (i key : ℕ) (e : Extent) → Updates s t key (Some e)
    → get s key ≡ None → AreKeys s ks → map (extent_at t) (insert ks i key) ≡ insert (map (extent_at s) ks) i e
extents_put s t ks i key e u none a =
    map_insert (extent_at t) ks i key
    ∙ ap (λ (es : List Extent). insert es i (extent_at t key))
    (extents_others s t ks key (Some e) u (not_in_vacant s ks key none a.live))
    ∙ ap (λ (x : Extent). insert (map (extent_at s) ks) i x) (there t key e u.changed)

-- An extent is removed.

pub keys_taken : (s t : Slab Extent) (ks : List ℕ) (i key : ℕ) → Updates s t key None → key ≡ get_or ks i key
    → i < length ks → AreKeys s ks → AreKeys t (remove ks i)
keys_taken s t ks i key u is l a =
    let apart : IsNotIn key (remove ks i) =
    subst (λ (k : ℕ). IsNotIn k (remove ks i)) (sym is) (not_in_rest ks i key a.distinct l) in
    record {
      live = live_others s t (remove ks i) key None u apart (live_remove s ks i a.live);
      distinct = distinct_remove ks i a.distinct;
    }

pub extents_taken : (s t : Slab Extent) (ks : List ℕ) (i key : ℕ) → Updates s t key None → key ≡ get_or ks i key
    → i < length ks → AreKeys s ks → map (extent_at t) (remove ks i) ≡ remove (map (extent_at s) ks) i
extents_taken s t ks i key u is l a =
    extents_others s t (remove ks i) key None u
    (subst (λ (k : ℕ). IsNotIn k (remove ks i)) (sym is) (not_in_rest ks i key a.distinct l))
    ∙ map_remove (extent_at s) ks i

-- An extent changes.

pub keys_changed : (s t : Slab Extent) (ks : List ℕ) (key : ℕ) (e : Extent) → Updates s t key (Some e) → AreKeys s ks
    → AreKeys t ks
keys_changed s t ks key e u a = record { live = live_changed s t ks key e u a.live; distinct = a.distinct }

pub extents_changed : (s t : Slab Extent) (ks : List ℕ) (i key : ℕ) (e : Extent) → Updates s t key (Some e)
    → key ≡ get_or ks i key → i < length ks → AreDistinct ks → map (extent_at t) ks ≡ set (map (extent_at s) ks) i e
extents_changed s t [] i key e u is l a = absurd (omega (arith, l))
extents_changed s t (k ∷ ks) zero key e u is l a =
    ap (λ (x : Extent). x ∷ map (extent_at t) ks) (there t k e (ap (get t) (sym is) ∙ u.changed))
    ∙ ap (λ (es : List Extent). e ∷ es)
    (extents_others s t ks key (Some e) u (subst (λ (x : ℕ). IsNotIn x ks) (sym is) a.0))
extents_changed s t (k ∷ ks) (suc i) key e u is l a =
    let other : k ≢ key = λ same. not_in_at k ks i key a.0 (omega (arith, l)) (sym is ∙ sym same) in
    ap (λ (x : Extent). x ∷ map (extent_at t) ks)
    (ap (λ (o : Option Extent). unwrap_or o (extent_of 0 [] false)) (u.others k other))
    ∙ ap (λ (es : List Extent). extent_at s k ∷ es) (extents_changed s t ks i key e u is (omega (arith, l)) a.1)
