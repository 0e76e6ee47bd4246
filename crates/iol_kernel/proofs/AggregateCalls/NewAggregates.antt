-- An aggregate is made of new bytes, after evictions of clean extents.
use Rattle.std.proofs.Common.{◌≡◌, ℕ, ◌∙◌, Bool, List, [], ◌∷◌, length, Some, refl, sym, ap, subst, true, false}
use Rattle.std.specs.Prelude.{Result, Ok, Err, is_none, nat_lt, not}
use Rattle.iol_arena.specs.State.{pages_for}
use Rattle.iol_core.specs.Text.{labelled}
use Rattle.iol_core.specs.State as machine
use Rattle.iol_core.specs.State.{State}
use Rattle.iol_core.specs.Meaning.{◌when◌, WantOfRoom, first}
use Rattle.iol_core.specs.Calls.Aggregates as aggs
use Rattle.iol_core.specs.declared.limits.TheConstants.{MAX_AGGREGATE_BYTES}
use Rattle.iol_core.specs.declared.refusals.Refusal.{Refusal}
use Rattle.iol_core.specs.declared.refusals.Refusal.TheVariants.{NoDomain, NoPool, TooLong, TooMany, PoolClosed, NoRoom}
use Rattle.iol_core.specs.declared.refusals.Refusal.TheVariants.{Memory}
use Rattle.iol_hold.specs.Room.{has_room}
use Rattle.iol_kernel.specs.Calls.{AddsBytes, MakesNext, MayMake, Steps}
use Rattle.iol_kernel.specs.KernelState.{KernelState, machine_of, read_of}
use Rattle.iol_kernel.specs.Room.{MakesRoom, Places, can_fit}
use Rattle.iol_kernel.specs.Readings.{Reading, bytes_over}
use Rattle.iol_kernel.proofs.State.AfterRoom.{kept_machine, kept_reading, late_step, places_filled, places_late}
use Rattle.iol_kernel.proofs.State.AfterRoom.{places_none}

-- The tests of the call do not depend on the bytes of files.

live_blind : (d : ℕ) (s : State) (x : List (List ℕ)) → machine.is_live (record s { slots = x }) d ≡ machine.is_live s d
unfolding machine.domain
live_blind d s x = refl

few_blind : (d made given : ℕ) (s : State) (x : List (List ℕ))
    → aggs.too_many_aggs (record s { slots = x }) d made given ≡ aggs.too_many_aggs s d made given
unfolding machine.domain
few_blind d made given s x = refl

closed_blind : (p : ℕ) (s : State) (x : List (List ℕ))
    → (machine.pool (record s { slots = x }) p).closed ≡ (machine.pool s p).closed
unfolding machine.pool
closed_blind p s x = refl

default_blind : (d : ℕ) (s : State) (x : List (List ℕ))
    → aggs.default_pool (record s { slots = x }) d ≡ aggs.default_pool s d
unfolding machine.domain
default_blind d s x = refl

make_blind : (d : ℕ) (bytes : List ℕ) (s : State) (x : List (List ℕ))
    → first (aggs.agg_make (record s { slots = x }) d bytes).refusals ≡ first (aggs.agg_make s d bytes).refusals
unfolding machine.domain machine.pool
make_blind d bytes s x = refl

-- None of its tests gives Memory.

five_tests : (p : ℕ) (a b c d e : Bool)
    → first ((NoDomain when a) ∷ (NoPool when b) ∷ (TooLong when c) ∷ (TooMany when d) ∷ (PoolClosed p when e) ∷ [])
    ≡ Some Memory → ⊥
five_tests p true b c d e is = absurd (cc is)
five_tests p false true c d e is = absurd (cc is)
five_tests p false false true d e is = absurd (cc is)
five_tests p false false false true e is = absurd (cc is)
five_tests p false false false false true is = absurd (cc is)
five_tests p false false false false false is = absurd (cc is)

pub make_tests : (d : ℕ) (bytes : List ℕ) (s : State) → first (aggs.agg_make s d bytes).refusals ≡ Some Memory → ⊥
make_tests d bytes s =
    let p = aggs.default_pool s d in
    five_tests p (not (machine.is_live s d)) (is_none (machine.domain s d).default)
    (nat_lt MAX_AGGREGATE_BYTES (length bytes)) (aggs.too_many_aggs s d 1 0) (machine.pool s p).closed

module _ (pool pages : ℕ) (h k : KernelState) (room : MakesRoom pool pages h k) where
  pub open_after : (p : ℕ) → (machine.pool (machine_of [] h) p).closed ≡ false
      → (machine.pool (machine_of [] k) p).closed ≡ false
  open_after p is = kept_machine (λ s. (machine.pool s p).closed) pool pages h k room (closed_blind p) ∙ is

  pub may_after : (d : ℕ) (bytes : List ℕ) (p : ℕ) → MayMake d bytes p h → MayMake d bytes p k
  may_after d bytes p may = record {
    passed = λ f. kept_reading (λ s. first (aggs.agg_make s d bytes).refusals) pool pages h k f room
        (make_blind d bytes) ∙ may.passed f;
    lands = λ f. kept_reading (λ s. aggs.default_pool s d) pool pages h k f room (default_blind d) ∙ may.lands f;
    live = kept_machine (λ s. machine.is_live s d) pool pages h k room (live_blind d) ∙ may.live;
    few = kept_machine (λ s. aggs.too_many_aggs s d 1 0) pool pages h k room (few_blind d 1 0) ∙ may.few;
    small = may.small;
    opened = open_after p may.opened;
  }

  module _ (d : ℕ) (bytes : List ℕ) (may : MayMake d bytes pool h) where
    after : MayMake d bytes pool k
    after = may_after d bytes pool may

    pub make_steps : (l : KernelState) (n : ℕ) → ((f : Reading) → n ≡ aggs.next_agg (read_of f k) d)
        → AddsBytes d pool bytes k l → Steps (λ s. aggs.agg_make s d bytes) k (Ok n) l
    make_steps l n number adds stored =
        let f = bytes_over stored k.store in (
          after.passed f,
          number f,
          adds stored
              ∙ ap (λ p. aggs.with_agg (machine_of stored k) d (labelled p bytes)) (sym (after.lands f)),
        )

    pub make_late : (l : KernelState) (x : Refusal) → WantOfRoom pool x → l ≡ k
        → Steps (λ s. aggs.agg_make s d bytes) k (Err x) l
    make_late l x late same stored =
        let f = bytes_over stored k.store in (
          late_step (aggs.agg_make (machine_of stored k) d bytes) x (after.passed f)
              (subst (λ p. WantOfRoom p x) (sym (after.lands f)) late),
          ap (machine_of stored) same,
        )

    pub make_places : (l : KernelState) (r : Result ℕ Refusal) → has_room k.store pool (length bytes) ≡ true
        → can_fit h pool (length bytes) ≡ true → MakesNext d pool bytes k r l → pages ≡ pages_for (length bytes)
        → Places (λ s. aggs.agg_make s d bytes) (λ s t. aggs.with_agg s d t) (aggs.default_pool (machine_of [] h) d)
        (length bytes) h r l
    make_places l (Ok n) roomy fits next is =
        let room' : MakesRoom pool (pages_for (length bytes)) h k = subst (λ q. MakesRoom pool q h k) is room in
        subst (λ p. Places (λ s. aggs.agg_make s d bytes) (λ s t. aggs.with_agg s d t) p (length bytes) h (Ok n) l)
        (sym (may.lands (bytes_over [] h.store)))
        (places_filled (λ s. aggs.agg_make s d bytes) (λ s t. aggs.with_agg s d t) pool (length bytes) h k l n room'
        fits (make_steps l n next.number next.placed) next.made next.sound next.cache next.stays)
    make_places l (Err x) roomy fits next is =
        let room' : MakesRoom pool (pages_for (length bytes)) h k = subst (λ q. MakesRoom pool q h k) is room in
        subst (λ p. Places (λ s. aggs.agg_make s d bytes) (λ s t. aggs.with_agg s d t) p (length bytes) h (Err x) l)
        (sym (may.lands (bytes_over [] h.store)))
        (places_late (λ s. aggs.agg_make s d bytes) (λ s t. aggs.with_agg s d t) pool (length bytes) h k l x room' roomy
        fits (make_late l x next.late next.err) next.err next.late next.room.no_room)

-- the bytes do not fit
pub make_none : (pool d : ℕ) (bytes : List ℕ) (h k : KernelState) → MakesRoom pool (pages_for (length bytes)) h k
    → k ≡ h → MayMake d bytes pool h → can_fit h pool (length bytes) ≡ false
    → Places (λ s. aggs.agg_make s d bytes) (λ s t. aggs.with_agg s d t) (aggs.default_pool (machine_of [] h) d)
    (length bytes) h (Err (NoRoom pool)) k
make_none pool d bytes h k room same may lacks =
    subst (λ p. Places (λ s. aggs.agg_make s d bytes) (λ s t. aggs.with_agg s d t) p (length bytes) h
    (Err (NoRoom pool)) k) (sym (may.lands (bytes_over [] h.store)))
    (places_none (λ s. aggs.agg_make s d bytes) (λ s t. aggs.with_agg s d t) pool (length bytes) h k room same
    may.passed (λ f. sym (may.lands f)) lacks)
