-- Ends of pipes stay open when a pipe is added or its queue changes.
use Rattle.std.proofs.Common.{◌≡◌, ◌≢◌, ℕ, zero, suc, ◌<◌, ◌≤◌, List, [], ◌∷◌, length, ap, ◌∙◌, refl, sym, arith, Bool}
use Rattle.std.specs.List.{AllByRecursion}
use Rattle.std.proofs.Common.{Option, Some, None, true, false, inl, inr, ◌⊎◌}
use Rattle.std.specs.Prelude.{slice_set, unwrap_or}
use Rattle.std.proofs.lemmas.Bool.{cases_lt, cases_eq}
use Rattle.std.proofs.lemmas.Bool.Decides.{nat_tests}
use Rattle.std.proofs.lemmas.Grind.{common_steps}
use Rattle.iol_core.specs.NumberedLists.{in_place, placed, lowest}
use Rattle.iol_core.specs.declared.descriptors.Descriptor.{Descriptor}
use Rattle.iol_core.specs.declared.descriptors.Descriptor.TheVariants as on
use Rattle.iol_hold.specs.declared.slices.Slice.{Slice}
use Rattle.iol_kernel.specs.Views.{Pipe, Objects}
use Rattle.iol_kernel.specs.KernelState.{IsOpenEnd, queue_at}
use Rattle.iol_kernel.proofs.State.Once.{in_place-lowest}
use Rattle.iol_kernel.proofs.State.Sound.{each-weaker}
use Rattle.iol_kernel.proofs.State.Uses.{Pipes}

abbrev pub closed_pipe : Pipe (List Slice)
closed_pipe = record { queue = []; reading = false; writing = false }

lowest_within : {A : Type 0} (xs : List (Option A)) → lowest xs ≤ length xs
lowest_within [] = omega arith
lowest_within (None ∷ xs) = omega arith
lowest_within (Some x ∷ xs) = omega (arith, lowest_within xs)

in_place-placed_same : {A : Type 0} (xs : List (Option A)) (n : ℕ) (x : A) → n ≤ length xs
    → in_place (placed xs n x) n ≡ Some x
in_place-placed_same xs n x le = grind (arith, nat_tests, common_steps, le)

in_place-placed_other : {A : Type 0} (xs : List (Option A)) (n p : ℕ) (x : A) → n ≤ length xs → p ≢ n
    → in_place (placed xs n x) p ≡ in_place xs p
in_place-placed_other xs n p x le other = grind (arith, nat_tests, common_steps, le, other)

-- a new pipe takes no other's place

open_placed : (is_open : Pipe (List Slice) → Bool) → is_open closed_pipe ≡ false
    → (qs : Pipes) (p : ℕ) (x : Pipe (List Slice)) → is_open (queue_at qs p) ≡ true
    → is_open (queue_at (placed qs (lowest qs) x) p) ≡ true
open_placed is_open closed qs p x h = elim (cases_eq p (lowest qs)) [
  | inl k ↦
      absurd
      (no
      (sym (ap (λ (o : Option (Pipe (List Slice))). is_open (unwrap_or o closed_pipe)) (ap (in_place qs) k
      ∙ in_place-lowest qs) ∙ closed) ∙ h))
  | inr k ↦ ap (λ (o : Option (Pipe (List Slice))). is_open (unwrap_or o closed_pipe))
      (in_place-placed_other qs (lowest qs) p x (lowest_within qs) k) ∙ h
]
  where
    no : false ≡ true → ⊥
    no e = cc

end_placed : (o : Objects (List Slice)) (x : Pipe (List Slice)) (e : Option Descriptor) → IsOpenEnd o e
    → IsOpenEnd (record o { pipes = placed o.pipes (lowest o.pipes) x }) e
end_placed o x None h = tt
end_placed o x (Some (on.ReadEnd p)) h = open_placed (λ y. y.reading) refl o.pipes p x h
end_placed o x (Some (on.WriteEnd p)) h = open_placed (λ y. y.writing) refl o.pipes p x h
end_placed o x (Some (on.File f at mode)) h = h
end_placed o x (Some (on.Connection c)) h = h

pub ends_placed : (o : Objects (List Slice)) (x : Pipe (List Slice)) (fds : List (Option Descriptor))
    → AllByRecursion (IsOpenEnd o) fds
    → AllByRecursion (IsOpenEnd (record o { pipes = placed o.pipes (lowest o.pipes) x })) fds
ends_placed o x fds e = each-weaker (IsOpenEnd o) (IsOpenEnd (record o { pipes = placed o.pipes (lowest o.pipes) x }))
    fds (end_placed o x) e

-- the place of a new pipe has no open end before
pub lowest_closed : (qs : Pipes) → ((queue_at qs (lowest qs)).reading ≡ true → ⊥)
    × ((queue_at qs (lowest qs)).writing ≡ true → ⊥)
lowest_closed qs = (
  λ h. no (sym (ap (λ (o : Option (Pipe (List Slice))). (unwrap_or o closed_pipe).reading) (in_place-lowest qs)) ∙ h),
  λ h. no (sym (ap (λ (o : Option (Pipe (List Slice))). (unwrap_or o closed_pipe).writing) (in_place-lowest qs)) ∙ h),
)
  where
    no : false ≡ true → ⊥
    no e = cc

-- the ends of the new pipe itself
pub new_reading : (qs : Pipes) (x : Pipe (List Slice))
    → (queue_at (placed qs (lowest qs) x) (lowest qs)).reading ≡ x.reading
new_reading qs x =
    ap (λ (o : Option (Pipe (List Slice))). (unwrap_or o closed_pipe).reading)
    (in_place-placed_same qs (lowest qs) x (lowest_within qs))

pub new_writing : (qs : Pipes) (x : Pipe (List Slice))
    → (queue_at (placed qs (lowest qs) x) (lowest qs)).writing ≡ x.writing
new_writing qs x =
    ap (λ (o : Option (Pipe (List Slice))). (unwrap_or o closed_pipe).writing)
    (in_place-placed_same qs (lowest qs) x (lowest_within qs))

-- a queue changes

pub there_if_open : (qs : Pipes) (p : ℕ) → ((queue_at qs p).reading ≡ true) ⊎ ((queue_at qs p).writing ≡ true)
    → p < length qs
there_if_open qs p h = elim (cases_lt p (length qs)) [
  | inl k ↦ k
  | inr k ↦ absurd (elim h [
    | inl r ↦ no (sym (ap (λ (o : Option (Pipe (List Slice))). (unwrap_or o closed_pipe).reading) (past k)) ∙ r)
    | inr w ↦ no (sym (ap (λ (o : Option (Pipe (List Slice))). (unwrap_or o closed_pipe).writing) (past k)) ∙ w)
  ])
]
  where
    no : false ≡ true → ⊥
    no e = cc

    past : length qs ≤ p → in_place qs p ≡ None
    past k = grind (arith, nat_tests, common_steps, k)

in_place-set : {A : Type 0} (xs : List (Option A)) (n p : ℕ) (x : A) → n < length xs
    → ((p ≡ n) × (in_place (slice_set xs n (Some x)) p ≡ Some x))
    ⊎ (in_place (slice_set xs n (Some x)) p ≡ in_place xs p)
in_place-set xs n p x lt = elim (cases_eq p n) [
  | inl k ↦ inl (k, grind (arith, nat_tests, common_steps, lt, k))
  | inr k ↦ inr (grind (arith, nat_tests, common_steps, lt, k))
]

end_queued : (o : Objects (List Slice)) (p : ℕ) (q : List Slice) → p < length o.pipes → (e : Option Descriptor)
    → IsOpenEnd o e
    → IsOpenEnd (record o { pipes = slice_set o.pipes p (Some (record (queue_at o.pipes p) { queue = q })) }) e
end_queued o p q lt None h = tt
end_queued o p q lt (Some (on.ReadEnd n)) h =
    elim (in_place-set o.pipes p n (record (queue_at o.pipes p) { queue = q }) lt) [
      | inl k ↦ ap (λ (o : Option (Pipe (List Slice))). (unwrap_or o closed_pipe).reading) k.1
          ∙ ap (λ i. (queue_at o.pipes i).reading) (sym k.0) ∙ h
      | inr k ↦ ap (λ (o : Option (Pipe (List Slice))). (unwrap_or o closed_pipe).reading) k ∙ h
    ]
end_queued o p q lt (Some (on.WriteEnd n)) h =
    elim (in_place-set o.pipes p n (record (queue_at o.pipes p) { queue = q }) lt) [
      | inl k ↦ ap (λ (o : Option (Pipe (List Slice))). (unwrap_or o closed_pipe).writing) k.1
          ∙ ap (λ i. (queue_at o.pipes i).writing) (sym k.0) ∙ h
      | inr k ↦ ap (λ (o : Option (Pipe (List Slice))). (unwrap_or o closed_pipe).writing) k ∙ h
    ]
end_queued o p q lt (Some (on.File f at mode)) h = h
end_queued o p q lt (Some (on.Connection c)) h = h

pub ends_queued : (o : Objects (List Slice)) (p : ℕ) (q : List Slice) → p < length o.pipes
    → (fds : List (Option Descriptor)) → AllByRecursion (IsOpenEnd o) fds
    → AllByRecursion
    (IsOpenEnd (record o { pipes = slice_set o.pipes p (Some (record (queue_at o.pipes p) { queue = q })) })) fds
ends_queued o p q lt fds e =
    each-weaker (IsOpenEnd o)
    (IsOpenEnd (record o { pipes = slice_set o.pipes p (Some (record (queue_at o.pipes p) { queue = q })) })) fds
    (end_queued o p q lt) e

-- a pipe with an open end exists

some_end : (qs : Pipes) (p : ℕ) → in_place qs p ≡ None → ((queue_at qs p).reading ≡ true)
    ⊎ ((queue_at qs p).writing ≡ true) → ⊥
some_end qs p none h = elim h [
  | inl r ↦ no (sym (ap (λ (o : Option (Pipe (List Slice))). (unwrap_or o closed_pipe).reading) none) ∙ r)
  | inr w ↦ no (sym (ap (λ (o : Option (Pipe (List Slice))). (unwrap_or o closed_pipe).writing) none) ∙ w)
]
  where
    no : false ≡ true → ⊥
    no e = cc

pub there_if_reading : (qs : Pipes) (p : ℕ) → (queue_at qs p).reading ≡ true → in_place qs p ≢ None
there_if_reading qs p r = λ none. some_end qs p none (inl r)

pub there_if_writing : (qs : Pipes) (p : ℕ) → (queue_at qs p).writing ≡ true → in_place qs p ≢ None
there_if_writing qs p w = λ none. some_end qs p none (inr w)

pub there_still : {A : Type 0} (xs : List (Option A)) (n : ℕ) (x : A) → in_place xs n ≢ None
    → in_place (slice_set xs n (Some x)) n ≢ None
there_still [] n x there = there
there_still (y ∷ xs) zero x there = λ none. cc
there_still (y ∷ xs) (suc n) x there = there_still xs n x there

pub ruleset there_rules = (there_if_reading, there_if_writing, there_still)
