-- A table in which one domain changes, and then is looked up or changes again.
use Rattle.std.proofs.Common.{◌≡◌, ◌≢◌, ℕ, ◌-◌, ◌<◌, ◌≤◌, List, length, ap, ◌∙◌, arith, inl, inr, true}
use Rattle.std.proofs.lemmas.Bool.{cases_lt, cases_eq}
use Rattle.std.proofs.lemmas.Bool.Decides.{nat_tests}
use Rattle.std.proofs.lemmas.Grind.{common_steps}
use Rattle.std.proofs.lemmas.List.{get_or_past, set-get_or, set-set, set_comm}
use Rattle.iol_core.specs.Text.{Text}
use Rattle.iol_core.specs.NumberedLists.{numbered_or}
use Rattle.iol_core.specs.State as machine
use Rattle.iol_core.specs.State.{State, Domain, no_domain}
use Rattle.iol_desc.specs.Tables.{domain_in, with_domain_in}

pub live_numbered : {A : Type 0} (ds : List (Domain A)) (d : ℕ) → (domain_in ds d).live ≡ true
    → (0 < d) × (d ≤ length ds)
unfolding domain_in
live_numbered {A} ds d live = elim (cases_eq d 0) [
  | inl k ↦ (let e : numbered_or ds d no_domain ≡ no_domain = grind (arith, nat_tests, k) in let f =
      ap (λ (x : Domain A). x.live) e in absurd (cc (live, f)))
  | inr k ↦ elim (cases_lt (d - 1) (length ds)) [
    | inl h ↦ (omega arith, omega arith)
    | inr h ↦ (let past = get_or_past ds (d - 1) no_domain h in let e : numbered_or ds d no_domain ≡ no_domain =
        grind (arith, nat_tests, k, past) in let f = ap (λ (x : Domain A). x.live) e in absurd (cc (live, f)))
  ]
]

domain_in-numbered : {A : Type 0} (ds : List (Domain A)) (d : ℕ) (x : Domain A) → 0 < d → d ≤ length ds
    → domain_in (with_domain_in ds d x) d ≡ x
unfolding domain_in with_domain_in
domain_in-numbered ds d x lo hi = grind (arith, nat_tests, common_steps, lo, hi)

pub domain_in-with_same : {A : Type 0} (ds : List (Domain A)) (d : ℕ) (x : Domain A) → (domain_in ds d).live ≡ true
    → domain_in (with_domain_in ds d x) d ≡ x
domain_in-with_same ds d x live = let n = live_numbered ds d live in domain_in-numbered ds d x n.0 n.1

pub domain_in-with_other : {A : Type 0} (ds : List (Domain A)) (d e : ℕ) (x : Domain A) → d ≢ e
    → domain_in (with_domain_in ds d x) e ≡ domain_in ds e
unfolding domain_in with_domain_in
domain_in-with_other ds d e x differ = grind (arith, nat_tests, common_steps, differ)

pub domain_in-changed : {A : Type 0} (ds es : List (Domain A)) (d : ℕ) (x : Domain A) → (domain_in ds d).live ≡ true
    → es ≡ with_domain_in ds d x → domain_in es d ≡ x
domain_in-changed {A} ds es d x live is = ap (λ (ys : List (Domain A)). domain_in ys d) is
    ∙ domain_in-with_same ds d x live

pub with_domain_in-twice : {A : Type 0} (ds : List (Domain A)) (d : ℕ) (x y : Domain A)
    → with_domain_in (with_domain_in ds d x) d y ≡ with_domain_in ds d y
unfolding with_domain_in
with_domain_in-twice ds d x y = let e = set-set ds (d - 1) x y in
    elim (cases_eq d 0) [ inl k ↦ grind (arith, nat_tests, k) | inr k ↦ grind (arith, nat_tests, k, e) ]

pub with_domain_in-same : {A : Type 0} (ds : List (Domain A)) (d : ℕ) → with_domain_in ds d (domain_in ds d) ≡ ds
unfolding domain_in with_domain_in
with_domain_in-same ds d = let e = set-get_or ds (d - 1) no_domain in
    elim (cases_eq d 0) [ inl k ↦ grind (arith, nat_tests, k) | inr k ↦ grind (arith, nat_tests, k, e) ]

pub with_domain_in-comm : {A : Type 0} (ds : List (Domain A)) (d e : ℕ) (x y : Domain A) → d ≢ e
    → with_domain_in (with_domain_in ds d x) e y ≡ with_domain_in (with_domain_in ds e y) d x
unfolding with_domain_in
with_domain_in-comm ds d e x y differ = elim (cases_eq d 0) [
  | inl k ↦ grind (arith, nat_tests, k)
  | inr k ↦ elim (cases_eq e 0) [
    | inl l ↦ grind (arith, nat_tests, l)
    | inr l ↦ (let c = set_comm ds (d - 1) (e - 1) x y (λ is. differ (omega (arith, is, k, l))) in
        grind (arith, nat_tests, k, l, c))
  ]
]

-- the same for the machine's domains

pub domain-with_same : (s : State) (d : ℕ) (x : Domain Text) → machine.is_live s d ≡ true
    → machine.domain (machine.with_domain s d x) d ≡ x
unfolding machine.domain machine.with_domain domain_in with_domain_in
domain-with_same s d x live = domain_in-with_same s.domains d x live

pub domain-with_other : (s : State) (d e : ℕ) (x : Domain Text) → d ≢ e
    → machine.domain (machine.with_domain s d x) e ≡ machine.domain s e
unfolding machine.domain machine.with_domain domain_in with_domain_in
domain-with_other s d e x differ = domain_in-with_other s.domains d e x differ

pub with_domain-twice : (s : State) (d : ℕ) (x y : Domain Text)
    → machine.with_domain (machine.with_domain s d x) d y ≡ machine.with_domain s d y
unfolding machine.with_domain with_domain_in
with_domain-twice s d x y =
    ap (λ (ds : List (Domain Text)). record s { domains = ds }) (with_domain_in-twice s.domains d x y)

pub with_domain-comm : (s : State) (d e : ℕ) (x y : Domain Text) → d ≢ e
    → machine.with_domain (machine.with_domain s d x) e y ≡ machine.with_domain (machine.with_domain s e y) d x
unfolding machine.with_domain with_domain_in
with_domain-comm s d e x y differ =
    ap (λ (ds : List (Domain Text)). record s { domains = ds }) (with_domain_in-comm s.domains d e x y differ)
