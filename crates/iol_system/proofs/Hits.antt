-- Hits leave L unchanged, and raise only the entries that are hit.
use Rattle.std.proofs.Common.{inl, inr, ◌≡◌, ◌∙◌, ℕ, ◌<◌, Bool, true, false, cond, List, [], ◌∷◌, length, Option, Some}
use Rattle.std.proofs.Common.{None, refl, sym, ap, arith, subst}
use Rattle.std.specs.Prelude.{option_map, unwrap_or, ◌+◌}
use Rattle.std.proofs.lemmas.Bool.{cases_eq, cases_lt}
use Rattle.iol_evict.specs.Order.{Ranking, entry_at, entry_or, hit_at, is_at, no_entry, with_height, worth}
use Rattle.iol_evict.specs.declared.entry.Entry.{Entry}
use Rattle.iol_evict.proofs.EntryList.{is_at-at, is_at-file}
use Rattle.iol_extent.specs.Extents.{Extent, extent_over}
use Rattle.iol_extent.specs.declared.spans.Span.{Span}
use Rattle.iol_cache.specs.CacheState.{order_in, with_order}
use Rattle.iol_cache.specs.RangeReads.{hit_counted, hits_counted}
use Rattle.iol_cache.proofs.Extents.FileEntries.{length-with_order, order_nowhere, order_other, order_same}
use Rattle.iol_system.specs.Laws.{IsSameOrHit, hit_above}

abbrev raised_to : (h : ℕ) → Entry → Entry
raised_to h e = record e { height = h }

-- Two hits of an entry have the effect of one.
pub hit_then : (low high : ℕ) (a b c : Option Entry) → high ≡ low → IsSameOrHit low a b → IsSameOrHit high b c
    → IsSameOrHit low a c
hit_then low high a b c is m (inl same) = elim m [ inl was ↦ inl (same ∙ was) | inr hit ↦ inr (same ∙ hit) ]
hit_then low high a b c is (inl was) (inr hit) =
    inr (hit ∙ ap (λ n. option_map (hit_above n) b) is ∙ ap (option_map (hit_above low)) was)
hit_then low high a b c is (inr once) (inr hit) =
    inr (hit ∙ ap (λ n. option_map (hit_above n) b) is ∙ ap (option_map (hit_above low)) once ∙ twice a)
  where
    twice : (o : Option Entry) → option_map (hit_above low) (option_map (hit_above low) o)
        ≡ option_map (hit_above low) o
    twice None = refl
    twice (Some e) = refl

-- the entry at a key whose height is set
found_there : (es : List Entry) (f at h : ℕ)
    → entry_at (with_height es f at h) f at ≡ option_map (raised_to h) (entry_at es f at)
found_there [] f at h = refl
found_there (e ∷ es) f at h = pick (is_at e f at) refl (found_there es f at h)
  where
    pick : (b : Bool) → is_at e f at ≡ b
        → entry_at (with_height es f at h) f at ≡ option_map (raised_to h) (entry_at es f at)
        → entry_at (with_height (e ∷ es) f at h) f at ≡ option_map (raised_to h) (entry_at (e ∷ es) f at)
    pick true is rest = rw is (rw is refl)
    pick false is rest = rw is (rw is rest)

-- the entry at another key is unchanged
found_elsewhere : (es : List Entry) (f at g b h : ℕ) → ((g ≡ f) × (b ≡ at) → ⊥)
    → entry_at (with_height es f at h) g b ≡ entry_at es g b
found_elsewhere [] f at g b h apart = refl
found_elsewhere (e ∷ es) f at g b h apart =
    pick (is_at e f at) (is_at e g b) refl refl (found_elsewhere es f at g b h apart)
  where
    pick : (x y : Bool) → is_at e f at ≡ x → is_at e g b ≡ y → entry_at (with_height es f at h) g b ≡ entry_at es g b
        → entry_at (with_height (e ∷ es) f at h) g b ≡ entry_at (e ∷ es) g b
    pick true true is too rest =
        absurd (apart (
          sym (is_at-file e g b too) ∙ is_at-file e f at is,
          sym (is_at-at e g b too)
              ∙ is_at-at e f at is,
        ))
    pick true false is too rest = rw (is, too) rest
    pick false true is too rest = rw (is, too) refl
    pick false false is too rest = rw (is, too) rest

one_hit : (r : Ranking) (f at g b : ℕ)
    → IsSameOrHit r.low (entry_at r.entries g b) (entry_at (hit_at r f at).entries g b)
one_hit r f at g b = elim (cases_eq g f) [
  | inr ne ↦ inl (found_elsewhere r.entries f at g b height (λ both. ne both.0))
  | inl file ↦ elim (cases_eq b at) [
    | inr ne ↦ inl (found_elsewhere r.entries f at g b height (λ both. ne both.1))
    | inl place ↦ subst (λ x. IsSameOrHit r.low (entry_at r.entries x b) (entry_at (hit_at r f at).entries x b))
        (sym file)
        (subst (λ y. IsSameOrHit r.low (entry_at r.entries f y) (entry_at (hit_at r f at).entries f y)) (sym place)
        (here (entry_at r.entries f at) refl))
  ]
]
  where
    height : ℕ
    height = r.low + worth (entry_or r.entries f at).size (entry_or r.entries f at).cost

    here : (o : Option Entry) → entry_at r.entries f at ≡ o
        → IsSameOrHit r.low (entry_at r.entries f at) (entry_at (hit_at r f at).entries f at)
    here None is = inl (found_there r.entries f at height ∙ ap (option_map (raised_to height)) is ∙ sym is)
    here (Some e) is =
        let entry : entry_or r.entries f at ≡ e = ap (λ (o : Option Entry). unwrap_or o no_entry) is in
        inr (found_there r.entries f at height ∙ ap (option_map (raised_to height)) is
        ∙ ap (λ (x : Entry). Some (raised_to (r.low + worth x.size x.cost) e)) entry
        ∙ sym (ap (option_map (hit_above r.low)) is))

-- the order of a pool after hits of extents of file f, all of which begin at offsets that satisfy At
pub record AreHit (f : ℕ) (At : ℕ → Type 0) (r s : Ranking) : Type 0 where
  pub low : s.low ≡ r.low
  pub order : (g at : ℕ) → IsSameOrHit r.low (entry_at r.entries g at) (entry_at s.entries g at)
  pub others : (g at : ℕ) → ((g ≡ f) × At at → ⊥) → entry_at s.entries g at ≡ entry_at r.entries g at

none_hit : (f : ℕ) (At : ℕ → Type 0) (r : Ranking) → AreHit f At r r
none_hit f At r = record { low = refl; order = λ g at. inl refl; others = λ g at other. refl }

hit_and_hit : (f : ℕ) (At : ℕ → Type 0) (r s t : Ranking) → AreHit f At r s → AreHit f At s t → AreHit f At r t
hit_and_hit f At r s t m n = record {
  low = n.low ∙ m.low;
  order = λ g at. hit_then r.low s.low _ _ _ m.low (m.order g at) (n.order g at);
  others = λ g at other. n.others g at other ∙ m.others g at other;
}

-- the extents over the starts of these spans begin at offsets that satisfy At
abbrev pub BeginAt : (At : ℕ → Type 0) → List Extent → List Span → Type 0
BeginAt At es [] = Unit {0}
BeginAt At es (s ∷ ss) = ((e : Extent) → extent_over es s.from ≡ Some e → At e.at) × BeginAt At es ss

pub hits_leave : (r : Ranking) (f : ℕ) (At : ℕ → Type 0) (es : List Extent) (ss : List Span) → BeginAt At es ss
    → AreHit f At r (hits_counted r f es ss)
hits_leave r f At es [] begin = none_hit f At r
hits_leave r f At es (s ∷ ss) begin =
    let mid = hit_counted r f (extent_over es s.from) in
    hit_and_hit f At r mid (hits_counted mid f es ss) (one (extent_over es s.from) begin.0)
    (hits_leave mid f At es ss begin.1)
  where
    dirty : (d : Bool) (at : ℕ) → At at → AreHit f At r (cond d r (hit_at r f at))
    dirty true at here = none_hit f At r
    dirty false at here = record {
      low = refl;
      order = λ g b. one_hit r f at g b;
      others =
          λ g b other. found_elsewhere r.entries f at g b
          (r.low + worth (entry_or r.entries f at).size (entry_or r.entries f at).cost)
          (λ both. other (both.0, subst At (sym both.1) here));
    }

    one : (o : Option Extent) → ((e : Extent) → o ≡ Some e → At e.at) → AreHit f At r (hit_counted r f o)
    one None here = none_hit f At r
    one (Some e) here = dirty e.dirty e.at (here e refl)

-- the orders of all pools, if hits change that of pool p, whether or not this pool exists
pub others_stay : (f : ℕ) (At : ℕ → Type 0) (os : List Ranking) (p : ℕ) (r : Ranking) (q : ℕ)
    → AreHit f At (order_in os p) r → AreHit f At (order_in os q) (order_in (with_order os p r) q)
others_stay f At os p r q hit = elim (cases_eq q p) [
  | inr ne ↦ same (order_other os p q r ne)
  | inl here ↦ elim (cases_lt 0 p) [
    | inr none ↦ nowhere here (λ k. absurd (omega (arith, k, none)))
    | inl some ↦ elim (cases_lt (length os) p) [
      | inl past ↦ nowhere here (λ k. past)
      | inr within ↦ subst (λ n. AreHit f At (order_in os n) (order_in (with_order os p r) n)) (sym here)
          (subst (AreHit f At (order_in os p)) (sym (order_same os p r some within)) hit)
    ]
  ]
]
  where
    same : order_in (with_order os p r) q ≡ order_in os q → AreHit f At (order_in os q) (order_in (with_order os p r) q)
    same is = subst (AreHit f At (order_in os q)) (sym is) (none_hit f At (order_in os q))

    nowhere : q ≡ p → (0 < p → length os < p) → AreHit f At (order_in os q) (order_in (with_order os p r) q)
    nowhere here out =
        same (ap (order_in (with_order os p r)) here
        ∙ order_nowhere (with_order os p r) p (λ k. omega (arith, out k, length-with_order os p r))
        ∙ sym (order_nowhere os p out) ∙ ap (order_in os) (sym here))
