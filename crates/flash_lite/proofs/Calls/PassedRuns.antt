-- A run in which no event is refused, step by step.
use Rattle.std.proofs.Common.{◌≡◌, ℕ, ◌==◌, List, [], ◌∷◌, ◌++◌, map, refl, subst, ap, ◌∙◌, Option, Some, None, true}
use Rattle.std.proofs.Common.{false}
use Rattle.std.specs.Prelude.{if◌then◌else◌}
use Rattle.std.specs.List.{flat_map}
use Rattle.std.specs.Option.{option_map_or}
use Rattle.iol_core.specs.Calls.Descriptors.{given_to, with_fds, opened, freed}
use Rattle.iol_core.specs.NumberedLists.{lowest, placed}
use Rattle.iol_core.specs.State.{State, descriptor, with_domain}
use Rattle.iol_core.specs.Meaning.{Meaning, Step, first}
use Rattle.iol_core.specs.Run.{Run, meaning, outcome}
use Rattle.iol_core.specs.declared.descriptors.Descriptor.{Descriptor}
use Rattle.iol_core.specs.declared.events.Call.TheVariants as call
use Rattle.iol_core.specs.declared.events.Event.{Event}
use Rattle.iol_core.specs.declared.events.Event.TheVariants as event
use Rattle.iol_core.specs.declared.events.Reply.{Reply}
use Rattle.iol_core.specs.declared.events.Reply.TheVariants as reply
use Rattle.flash_lite.specs.Setup.{first_refusal}

-- with other bytes in its slots
abbrev pub over : (slots : List (List ℕ)) → State → State
over slots s = record s { slots = slots }

-- No event is refused, and the next event follows. Each event sees some possible contents of the slots, and leaves the
-- slots of the state unchanged: so the run is over a store with unknown contents.
module _ (Of : List (List ℕ) → Type 0) where
  abbrev pub Passes : State → List Event → State → Type 0
  Passes s [] t = t ≡ s
  Passes s (e ∷ es) t = (slots : List (List ℕ)) × Of slots × (first (meaning (over slots s) e).refusals ≡ None)
      × Passes (over s.slots (meaning (over slots s) e).after) es t

  pub record Parted (s : State) (es fs : List Event) (t : State) : Type 0 where
    pub mid : State
    pub front : Passes s es mid
    pub back : Passes mid fs t

  -- a run of two lists of events is a run of the first, followed by one of the second
  pub parted : (es fs : List Event) (s t : State) → Passes s (es ++ fs) t → Parted s es fs t
  parted [] fs s t all = record { mid = s; front = refl; back = all }
  parted (e ∷ es) fs s t all =
      let rest = parted es fs (over s.slots (meaning (over all.0 s) e).after) t all.3 in
      record { mid = rest.mid; front = (all.0, all.1, all.2, rest.front); back = rest.back }

  pub slots_stay : (es : List Event) (s t : State) → Passes s es t → t.slots ≡ s.slots
  slots_stay [] s t all = ap (λ (m : State). m.slots) all
  slots_stay (e ∷ es) s t all = slots_stay es (over s.slots (meaning (over all.0 s) e).after) t all.3

-- ---- a run without a refusal

pub record Passed (m : Meaning Reply) (t : State) (rs : List Reply) : Type 0 where
  pub unrefused : first m.refusals ≡ None
  pub after : t ≡ m.after
  pub rest : first_refusal rs ≡ None

-- if no reply is a refusal, the first event has none
pub first_passed : (m : Meaning Reply) (s t : State) (r : Reply) (rs : List Reply) → first_refusal (r ∷ rs) ≡ None
    → Step m s (outcome r) t → Passed m t rs
first_passed m s t (reply.Refused x) rs none step = absurd (cc)
first_passed m s t r rs none step = record { unrefused = step.0; after = step.2; rest = none }

-- an event of those that set up a site: it leaves the slots unchanged
abbrev pub IsPlain : Event → Type 0
IsPlain (event.Call by call.DomainNew) = Unit {0}
IsPlain (event.Call by (call.PoolCreate chunks list)) = Unit {0}
IsPlain (event.Call by (call.SetPool p)) = Unit {0}
IsPlain (event.Call by (call.FileNew name p)) = Unit {0}
IsPlain (event.Call by call.Pipe) = Unit {0}
IsPlain (event.Call by (call.GiveFd fd to)) = Unit {0}
IsPlain e = ⊥

abbrev pub ArePlain : List Event → Type 0
ArePlain [] = Unit {0}
ArePlain (e ∷ es) = IsPlain e × ArePlain es

given_slots : (s : State) (by fd to : ℕ) (o : Option Descriptor)
    → (option_map_or (given_to s by fd to) o s).slots ≡ s.slots
unfolding with_domain
given_slots s by fd to None = refl
given_slots s by fd to (Some x) =
    elim (by == to) as
    (λ b. (if b then with_fds s by (placed (freed s by fd) (lowest (freed s by fd)) x) else with_fds (opened s to x) by
    (freed s by fd)).slots ≡ s.slots) [
      | true ↦ refl
      | false ↦ refl
    ]

plain_slots : (s : State) (e : Event) → IsPlain e → (meaning s e).after.slots ≡ s.slots
unfolding with_domain
plain_slots s (event.Call by call.DomainNew) plain = refl
plain_slots s (event.Call by (call.PoolCreate chunks list)) plain = refl
plain_slots s (event.Call by (call.SetPool p)) plain = refl
plain_slots s (event.Call by (call.FileNew name p)) plain = refl
plain_slots s (event.Call by call.Pipe) plain = refl
plain_slots s (event.Call by (call.GiveFd fd to)) plain = given_slots s by fd to (descriptor s by fd)
plain_slots s e plain = absurd plain

pub run_passes : (es : List Event) (rs : List Reply) (slots : List (List ℕ)) (s t : State) → s.slots ≡ slots
    → ArePlain es → Run s es rs t → first_refusal rs ≡ None → Passes (λ x. x ≡ slots) s es t
run_passes [] [] slots s t same plain run none = run
run_passes [] (r ∷ rs) slots s t same plain run none = absurd run
run_passes (e ∷ es) [] slots s t same plain run none = absurd run
run_passes (e ∷ es) (r ∷ rs) slots s t same plain run none =
    let one = first_passed (meaning s e) s run.0 r rs none run.1 in
    let stays : (meaning s e).after.slots ≡ s.slots = plain_slots s e plain.0 in
    let mid : run.0 ≡ over s.slots (meaning s e).after =
    one.after ∙ ap (λ (x : List (List ℕ)). over x (meaning s e).after) stays in
    let buffered : run.0.slots ≡ slots = ap (λ (m : State). m.slots) one.after ∙ (stays ∙ same) in
    let rest = run_passes es rs slots run.0 t buffered plain.1 run.2 one.rest in
    (s.slots, same, one.unrefused, subst (λ (m : State). Passes (λ x. x ≡ slots) m es t) mid rest)

-- ---- lists of plain events

pub plain-append : (es fs : List Event) → ArePlain es → ArePlain fs → ArePlain (es ++ fs)
plain-append [] fs front back = back
plain-append (e ∷ es) fs front back = (front.0, plain-append es fs front.1 back)

pub plain-map : {A : Type 0} (f : A → Event) (xs : List A) → ((x : A) → IsPlain (f x)) → ArePlain (map f xs)
plain-map f [] each = tt
plain-map f (x ∷ xs) each = (each x, plain-map f xs each)

pub plain-flat_map : {A : Type 0} (f : A → List Event) (xs : List A) → ((x : A) → ArePlain (f x))
    → ArePlain (flat_map f xs)
plain-flat_map f [] each = tt
plain-flat_map f (x ∷ xs) each = plain-append (f x) (flat_map f xs) (each x) (plain-flat_map f xs each)
