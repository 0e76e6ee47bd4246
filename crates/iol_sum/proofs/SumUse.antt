-- Remembered sums, after one is used.
use Rattle.std.proofs.Common.{◌≡◌, ℕ, ◌+◌, ◌-◌, ◌≤◌, true, false, List, [], ◌∷◌, length, take, Option, Some, None, OnOk}
use Rattle.std.proofs.Common.{OnErr, Result, Ok, Err, refl, sym, ap, subst, ◌∙◌, arith, inl, inr}
use Rattle.std.specs.List.{All}
use Rattle.std.specs.Map.{keys_of, lookup, remove_entry}
use Rattle.std.proofs.lemmas.List.{length-take}
use Rattle.std.proofs.lemmas.List.Elements.{All-cons, All-head, All-tail, All-take, All-contains}
use Rattle.std.proofs.lemmas.Map.Keys.{IsDistinct-cons}
use Rattle.lru.specs.LruCache.{LruCache, lru_cache, promoted, put_entries}
use Rattle.lru.proofs.CallerLemmas.{Contains-lookup}
use Rattle.iol_arena.specs.State.{State}
use Rattle.iol_sum.specs.declared.keys.Key.{Key}
use Rattle.iol_sum.specs.Sums.{Sums, same, sum_kept, IsRightSum, IsRight, others, used, Uses}
use Rattle.iol_sum.proofs.KeyedLists.{same-true, entry-found, entry-missed, length-removed, AreDistinct, IsNew}
use Rattle.iol_sum.proofs.KeyedLists.{removed-new, removed-distinct, take-distinct, take-new}

-- the kit's cache, as contracts see it
abbrev pub sums_of : LruCache Key ℕ → Sums
sums_of c = record { entries = c.entries; limit = c.cap }

others-found : (c : Sums) (k : Key) (n : ℕ) → sum_kept c k ≡ Some n → others c k ≡ remove_entry (same k) c.entries
others-found c k n h = rw h refl

others-missed : (c : Sums) (k : Key) → sum_kept c k ≡ None → others c k ≡ take (c.limit - 1) c.entries
others-missed c k h = rw h refl

-- a look-up that finds the sum
pub Uses-found : (c new : LruCache Key ℕ) (k : Key) (n : ℕ) → lookup (same k) c.entries ≡ Some n
    → new ≡ lru_cache (promoted (same k) c.entries) c.cap → Uses (sums_of c) k n (sums_of new)
Uses-found c new k n h e =
    let found = entry-found k n c.entries h in
    let all : promoted (same k) c.entries ≡ (k, n) ∷ others (sums_of c) k =
    rw found (ap (λ l. (k, n) ∷ l) (sym (others-found (sums_of c) k n h))) in
    inl (ap sums_of e ∙ ap (λ l. sums_of (lru_cache l c.cap)) all)

-- a look-up that finds none changes nothing
pub unpromoted : (c new : LruCache Key ℕ) (k : Key) → lookup (same k) c.entries ≡ None
    → new ≡ lru_cache (promoted (same k) c.entries) c.cap → new ≡ c
unpromoted c new k h e = e ∙ (rw (entry-missed k c.entries h) refl)

-- a new sum is inserted, or memory is refused
pub Uses-put : {X E : Type 0} (c new : LruCache Key ℕ) (k : Key) (n : ℕ) (r : Result X E)
    → lookup (same k) c.entries ≡ None → OnOk r (new ≡ lru_cache (put_entries same c k n) c.cap) → OnErr r (new ≡ c)
    → Uses (sums_of c) k n (sums_of new)
Uses-put c new k n (Ok x) h done refused =
    let missed = entry-missed k c.entries h in
    let all : put_entries same c k n ≡ (k, n) ∷ others (sums_of c) k =
    rw missed (ap (λ l. (k, n) ∷ l) (sym (others-missed (sums_of c) k h))) in
    inl (ap sums_of done ∙ ap (λ l. sums_of (lru_cache l c.cap)) all)
Uses-put c new k n (Err x) h done refused = inr (ap sums_of refused, h)

-- a remembered sum is right
pub right-sum : (s : State) (k : Key) (n : ℕ) (c : Sums) → IsRight s c → sum_kept c k ≡ Some n → IsRightSum s (k, n)
right-sum s k n c h e =
    let at = Contains-lookup (same k) c.entries n e in
    let key : k ≡ at.0 = same-true k at.0 at.2 in
    subst (λ j. IsRightSum s (j, n)) (sym key) (All-contains (IsRightSum s) c.entries (at.0, n) h.each at.1)

removed-right : (s : State) (k : Key) (es : List (Key × ℕ)) → All (IsRightSum s) es
    → All (IsRightSum s) (remove_entry (same k) es)
removed-right s k [] h = h
removed-right s k (f ∷ es) h =
    (elim (same k f.0) as (λ y. same k f.0 ≡ y → All (IsRightSum s) (remove_entry (same k) (f ∷ es))) [
      | true ↦ λ t. rw t (All-tail (IsRightSum s) f es h)
      | false ↦
          λ t. rw t (All-cons (IsRightSum s) f (remove_entry (same k) es) (All-head (IsRightSum s) f es h)
          (removed-right s k es (All-tail (IsRightSum s) f es h)))
    ]) refl

-- entries that may come after a key
record Behind (s : State) (c : Sums) (k : Key) (es : List (Key × ℕ)) : Type 0 where
  each : All (IsRightSum s) es
  distinct : AreDistinct es
  new : IsNew k es
  fits : length es + 1 ≤ c.limit

others-behind : (s : State) (c : Sums) (k : Key) → IsRight s c → (o : Option ℕ) → sum_kept c k ≡ o
    → Behind s c k (others c k)
others-behind s c k h (Some n) e = subst (Behind s c k) (sym (others-found c k n e)) (record {
  each = removed-right s k c.entries h.each;
  distinct = removed-distinct k c.entries h.distinct;
  new = removed-new k c.entries h.distinct;
  fits = let one = length-removed k n c.entries e in let room = h.fits in omega arith;
})
others-behind s c k h None e = subst (Behind s c k) (sym (others-missed c k e)) (record {
  each = All-take (IsRightSum s) (c.limit - 1) c.entries h.each;
  distinct = take-distinct (c.limit - 1) c.entries h.distinct;
  new = take-new k (c.limit - 1) c.entries e;
  fits = let some = h.some in omega (arith, length-take (c.limit - 1) c.entries);
})

used-right : (s : State) (c : Sums) (k : Key) (n : ℕ) → IsRightSum s (k, n) → IsRight s c → IsRight s (used c k n)
used-right s c k n at h =
    let rest = others-behind s c k h (sum_kept c k) refl in
    record {
      each = All-cons (IsRightSum s) (k, n) (others c k) at rest.each;
      distinct = IsDistinct-cons same k (keys_of (others c k)) rest.new rest.distinct;
      fits = let room = rest.fits in omega arith;
      some = h.some;
    }

-- remembered sums stay right as one is used
pub Uses-right : (s : State) (old new : Sums) (k : Key) (n : ℕ) → IsRightSum s (k, n) → IsRight s old → Uses old k n new
    → IsRight s new
Uses-right s old new k n at h (inl e) = subst (IsRight s) (sym e) (used-right s old k n at h)
Uses-right s old new k n at h (inr e) = subst (IsRight s) (sym e.0) h
