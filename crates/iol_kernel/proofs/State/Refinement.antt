-- A call that carries out takes the machine's step, and the layout's.
use Rattle.std.proofs.Common.{◌≡◌, ℕ, List, [], ap, refl, sym, subst, Option, Some, None}
use Rattle.std.specs.Prelude.{MatchOption, Result, Ok, Err}
use Rattle.iol_arena.specs.State as arena
use Rattle.iol_core.specs.State.{State}
use Rattle.iol_core.specs.Meaning.{Meaning, Step, first}
use Rattle.iol_core.specs.declared.refusals.Refusal.{Refusal}
use Rattle.iol_core.specs.declared.refusals.Refusal.TheVariants.{NoRoom}
use Rattle.iol_hold.specs.StoreState.{Stored, with_arena}
use Rattle.iol_hold.specs.Layout.{number_at}
use Rattle.iol_hold.specs.Places.{Place}
use Rattle.iol_hold.specs.Texts.{byte_at}
use Rattle.iol_hold.proofs.AtPlaces.{keeps_bytes, keeps_numbers}
use Rattle.iol_kernel.specs.Calls.{Answers, CarriesOut, KeepsPlaces}
use Rattle.iol_kernel.specs.KernelState.{KernelState, IsSound, read_of, machine_of, layout_of}
use Rattle.iol_kernel.specs.Readings.{Reading, bytes_over}
use Rattle.iol_kernel.proofs.State.TableCalls.{refusal_of}
use Rattle.iol_kernel.proofs.State.Stay.{pages_here, stays_here}

-- the byte at a place depends on the arena only
pub byte_at-arena : (s t : Stored) → t.arena ≡ s.arena → byte_at t ≡ byte_at s
byte_at-arena s t e = ap (λ (a : arena.State). byte_at (with_arena s a)) e

pub carried_machine : {A : Type 0} (m : State → Meaning A) (old new : KernelState) (r : Result A Refusal)
    (stored : List (List ℕ)) → CarriesOut m old r new
    → Step (m (machine_of stored old)) (machine_of stored old) r (machine_of stored new)
carried_machine m old new r stored c =
    subst (λ (at : Place → ℕ × ℕ). Step (m (machine_of stored old)) (machine_of stored old) r
    (read_of (record { at = at; stored = stored }) new)) (sym (byte_at-arena old.store new.store c.arena))
    (c.step (bytes_over stored old.store) (keeps_bytes old.store))

pub carried_layout : {A : Type 0} (m : State → Meaning A) (old new : KernelState) (r : Result A Refusal)
    → CarriesOut m old r new → Step (m (layout_of old)) (layout_of old) r (layout_of new)
carried_layout m old new r c = c.step (record { at = number_at; stored = [] }) keeps_numbers

-- A call that a test refused.

refused_step : {A : Type 0} (m : Meaning A) (s : State) (x : Refusal) → first m.refusals ≡ Some x → Step m s (Err x) s
refused_step m s x is = (subst (λ (o : Option Refusal). MatchOption o (m.Late x) (λ y. x ≡ y)) (sym is) refl, refl)

module _ {A : Type 0} (m : State → Meaning A) (h : KernelState) (x : Refusal) (sound : IsSound h)
    (refused : (f : Reading) → first (m (read_of f h)).refusals ≡ Some x) where
  pub carried_refused : ((p : ℕ) → x ≡ NoRoom p → ⊥) → CarriesOut m h (Err x) h
  carried_refused roomy = record {
    step = λ f keeps. refused_step (m (read_of f h)) (read_of f h) x (refused f);
    arena = refl;
    pools = refl;
    roomy = λ p e. roomy p (refusal_of x (NoRoom p) e);
    refused = refl;
    sums = refl;
    cache = refl;
    sound = sound;
    stays = stays_here h.store;
  }

  pub kept_refused : KeepsPlaces m h (Err x) h
  kept_refused = record {
    step =
        λ stored. refused_step (m (machine_of stored h)) (machine_of stored h) x (refused (bytes_over stored h.store));
    places = λ f keeps. refused_step (m (read_of f h)) (read_of f h) x (refused f);
    pages = pages_here h.store;
    refused = refl;
    sums = refl;
    cache = refl;
    sound = sound;
    stays = stays_here h.store;
  }

-- A call that has passed its tests: it is done, or it is refused for lack of memory and changes nothing.

module _ {A : Type 0} (m : State → Meaning A) (h k : KernelState) (passed : (f : Reading)
    → first (m (read_of f h)).refusals ≡ None) where
  pub carried_done : (a : A) → Answers m h a k → CarriesOut m h (Ok a) k
  carried_done a done = record {
    step = λ f keeps. (passed f, done.answer f keeps, done.after f keeps);
    arena = done.arena;
    pools = done.pools;
    roomy = λ p e. cc e;
    refused = tt;
    sums = done.sums;
    cache = done.cache;
    sound = done.sound;
    stays = done.stays;
  }

  pub carried_late : (x : Refusal) → IsSound h → k ≡ h → ((f : Reading) → (m (read_of f h)).Late x)
      → ((p : ℕ) → x ≡ NoRoom p → ⊥) → CarriesOut m h (Err x) k
  carried_late x sound same late roomy = subst (λ (l : KernelState). CarriesOut m h (Err x) l) (sym same) (record {
    step =
        λ f keeps. (
          subst (λ (o : Option Refusal). MatchOption o ((m (read_of f h)).Late x) (λ y. x ≡ y))
              (sym (passed f)) (late f),
          refl,
        );
    arena = refl;
    pools = refl;
    roomy = λ p e. roomy p (refusal_of x (NoRoom p) e);
    refused = refl;
    sums = refl;
    cache = refl;
    sound = sound;
    stays = stays_here h.store;
  })

pub ruleset carried_rules = (carried_machine, carried_layout)
