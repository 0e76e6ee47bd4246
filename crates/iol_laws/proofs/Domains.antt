-- The contents of a domain after a change.
use Rattle.std.proofs.Common.{inl, inr, ◌≡◌, ◌≢◌, ℕ, ◌+◌, ◌-◌, ◌<◌, ◌≤◌, ◌⊎◌, List, [], ◌∷◌, length, ap, ◌∙◌, refl, sym}
use Rattle.std.proofs.Common.{subst, arith, Option, Some, None, true, false, Bool}
use Rattle.std.specs.Prelude.{not, fold, slice_set, ◌||◌}
use Rattle.std.proofs.lemmas.Bool.{cases_eq, cases_lt}
use Rattle.std.proofs.lemmas.Bool.Decides.{nat_tests}
use Rattle.std.proofs.lemmas.Grind.{common_steps}
use Rattle.std.proofs.lemmas.List.{get_or_past, set_past, set-set}
use Rattle.iol_core.specs.Text.{Text}
use Rattle.iol_core.specs.NumberedLists.{numbered_or, with_numbered, in_place}
use Rattle.iol_core.specs.State.{State, Domain, Pipe, Connection, domain, descriptor, no_domain, is_live, with_domain}
use Rattle.iol_core.specs.State.{with_pipe, with_conn}
use Rattle.iol_core.specs.Meaning.{first, ◌when◌}
use Rattle.iol_core.specs.Calls.Descriptors as fds
use Rattle.iol_core.specs.Calls.Reads as reading
use Rattle.iol_core.specs.declared.refusals.Refusal.{Refusal}
use Rattle.iol_core.specs.declared.refusals.Refusal.TheVariants as refuse
use Rattle.iol_core.specs.declared.descriptors.Descriptor.{Descriptor}
use Rattle.iol_core.specs.declared.descriptors.Descriptor.TheVariants as on
use Rattle.iol_core.proofs.Lookups.{domain-same, domain-with_domain}
use Rattle.iol_core.proofs.TestedLists.{passed, when-not, when-none}

pub domains-with_pipe : (s : State) (p : ℕ) (x : Pipe) → (with_pipe s p x).domains ≡ s.domains
unfolding with_pipe
domains-with_pipe s p x = refl

pub domains-with_conn : (s : State) (c : ℕ) (x : Connection) → (with_conn s c x).domains ≡ s.domains
unfolding with_conn
domains-with_conn s c x = refl

pub domains-closed_on : (s : State) (o : Option Descriptor) → (fds.closed_on s o).domains ≡ s.domains
unfolding with_pipe with_conn
domains-closed_on s (Some (on.File f at mode)) = refl
domains-closed_on s o = refl

pub domains-all_closed : (s : State) (list : List (Option Descriptor)) → (fold fds.closed_on s list).domains ≡ s.domains
domains-all_closed s [] = refl
domains-all_closed s (o ∷ list) = domains-all_closed (fds.closed_on s o) list ∙ domains-closed_on s o

pub live-numbered : (s : State) (d : ℕ) → is_live s d ≡ true → (0 < d) × (d ≤ length s.domains)
unfolding domain
live-numbered s d live = elim (cases_eq d 0) [
  | inl k ↦ (let e : numbered_or s.domains d no_domain ≡ no_domain = grind (arith, nat_tests, k) in let f =
      ap (λ (x : Domain Text). x.live) e in absurd (cc (live, f)))
  | inr k ↦ elim (cases_lt (d - 1) (length s.domains)) [
    | inl h ↦ (omega arith, omega arith)
    | inr h ↦
        (let past = get_or_past s.domains (d - 1) no_domain h in let e : numbered_or s.domains d no_domain ≡ no_domain =
        grind (arith, nat_tests, k, past) in let f = ap (λ (x : Domain Text). x.live) e in absurd (cc (live, f)))
  ]
]

pub domain-numbered : (s : State) (d : ℕ) (x : Domain Text) → 0 < d → d ≤ length s.domains
    → domain (with_domain s d x) d ≡ x
unfolding domain with_domain
domain-numbered s d x lo hi = grind (arith, nat_tests, common_steps, lo, hi)

-- either a domain has this number, or setting it changes nothing
pub in-range : (s : State) (d : ℕ) → ((0 < d) × (d ≤ length s.domains)) ⊎ ((x : Domain Text) → with_domain s d x ≡ s)
unfolding with_domain
in-range s d = elim (cases_eq d 0) [
  | inl k ↦ inr (λ x. ap (λ (ds : List (Domain Text)). record s { domains = ds }) (grind (arith, nat_tests, k)))
  | inr k ↦ elim (cases_lt (d - 1) (length s.domains)) [
    | inl h ↦ inl (omega (arith, k), omega (arith, k, h))
    | inr h ↦
        inr (λ x. ap (λ (ds : List (Domain Text)). record s { domains = ds }) (let same =
        set_past s.domains (d - 1) x h in grind (arith, nat_tests, k, same)))
  ]
]

pub domain-with_same : (s : State) (d : ℕ) (x : Domain Text) → is_live s d ≡ true → domain (with_domain s d x) d ≡ x
domain-with_same s d x live = let n = live-numbered s d live in domain-numbered s d x n.0 n.1

pub domain-with_other : (s : State) (d e : ℕ) (x : Domain Text) → d ≢ e → domain (with_domain s d x) e ≡ domain s e
domain-with_other s d e x differ =
    elim (domain-with_domain s d e x) [ inl both ↦ absurd (differ both.0) | inr same ↦ same ]

numbered-there : {A : Type 0} (xs : List A) (d : ℕ) (x z : A) → (numbered_or (with_numbered xs d x) d z ≡ x)
    ⊎ (numbered_or (with_numbered xs d x) d z ≡ z)
numbered-there xs d x z = elim (cases_eq d 0) [
  | inl k ↦ inr (grind (arith, nat_tests, common_steps, k))
  | inr k ↦ elim (cases_lt (d - 1) (length xs)) [
    | inl within ↦ inl (grind (arith, nat_tests, common_steps, k, within))
    | inr past ↦ inr (grind (arith, nat_tests, common_steps, k, past))
  ]
]

domain-there : (s : State) (d : ℕ) (x : Domain Text) → (domain (with_domain s d x) d ≡ x)
    ⊎ (domain (with_domain s d x) d ≡ no_domain)
unfolding domain with_domain
domain-there s d x = numbered-there s.domains d x no_domain

-- a read changes only the descriptors of its domain
pub kept-read_on : {A : Type 0} (f : Domain Text → A)
    → ((y : Domain Text) (xs : List (Option Descriptor)) → f (record y { fds = xs }) ≡ f y)
    → (s : State) (by fd : ℕ) (o : Option Descriptor) (n : ℕ)
    → f (domain (reading.read_on s by fd o n) by) ≡ f (domain s by)
kept-read_on f same s by fd (Some (on.File g at mode)) n =
    elim (domain-with_domain s by by
    (record (domain s by) { fds = slice_set (domain s by).fds fd (Some (on.File g (at + n) mode)) })) [
      | inl both ↦
          ap f both.1 ∙ same (domain s by) _
      | inr old ↦ ap f old
    ]
kept-read_on f same s by fd (Some (on.ReadEnd p)) n = ap f (domain-same s _ by (domains-with_pipe s p _))
kept-read_on f same s by fd (Some (on.Connection c)) n = ap f (domain-same s _ by (domains-with_conn s c _))
kept-read_on f same s by fd o n = refl

-- a descriptor that is found after a domain changed is one of the new entry, or of another domain
pub found-with : (s : State) (d : ℕ) (x : Domain Text) (e f : ℕ) (y : Descriptor)
    → descriptor (with_domain s d x) e f ≡ Some y → ((d ≡ e) × (in_place x.fds f ≡ Some y))
    ⊎ ((d ≢ e) × (descriptor s e f ≡ Some y))
found-with s d x e f y is = elim (cases_eq d e) [
  | inr differ ↦ elim (domain-with_domain s d e x) [
    | inl both ↦ absurd (differ both.0)
    | inr same ↦ inr (differ, sym (ap (λ (z : Domain Text). in_place z.fds f) same) ∙ is)
  ]
  | inl equal ↦ inl (
    equal,
    elim (domain-there s d x) [
      | inl new ↦ sym (ap (λ (z : Domain Text). in_place z.fds f) new)
          ∙ subst (λ n. descriptor (with_domain s d x) n f ≡ Some y) (sym equal) is
      | inr none ↦ absurd (let a = ap (λ (z : Domain Text). in_place z.fds f) none in let b =
          subst (λ n. descriptor (with_domain s d x) n f ≡ Some y) (sym equal) is in cc (a, b))
    ],
  )
]

pub with_domain-twice : (s : State) (d : ℕ) (x y : Domain Text)
    → with_domain (with_domain s d x) d y ≡ with_domain s d y
unfolding with_domain
with_domain-twice s d x y = ap (λ (ds : List (Domain Text)). record s { domains = ds }) (twice s.domains)
  where
    twice : (ds : List (Domain Text)) → with_numbered (with_numbered ds d x) d y ≡ with_numbered ds d y
    twice ds = let e = set-set ds (d - 1) x y in
        elim (cases_eq d 0) [ inl k ↦ grind (arith, nat_tests, k) | inr k ↦ grind (arith, nat_tests, k, e) ]

pub live-first : (s : State) (d : ℕ) (rest : List (Option Refusal))
    → first ((refuse.NoDomain when not (is_live s d)) ∷ rest) ≡ None → is_live s d ≡ true
live-first s d rest none =
    when-not refuse.NoDomain (is_live s d) (passed ((refuse.NoDomain when not (is_live s d)) ∷ rest) 0 none)

pub both-live : (s : State) (by to : ℕ) (rest : List (Option Refusal))
    → first ((refuse.NoDomain when (not (is_live s by) || not (is_live s to))) ∷ rest) ≡ None
    → (is_live s by ≡ true) × (is_live s to ≡ true)
both-live s by to rest none =
    both (is_live s by) (is_live s to)
    (when-none refuse.NoDomain (not (is_live s by) || not (is_live s to))
    (passed ((refuse.NoDomain when (not (is_live s by) || not (is_live s to))) ∷ rest) 0 none))
  where
    both : (a b : Bool) → (not a || not b) ≡ false → (a ≡ true) × (b ≡ true)
    both true true is = (refl, refl)
    both true false is = absurd (cc)
    both false b is = absurd (cc)
