-- The answer of a call that changes only tables, or also the references to buffers.
use Rattle.std.proofs.Common.{◌≡◌, List, ap, ◌∙◌}
use Rattle.std.specs.Prelude.{Result, Ok, Err}
use Rattle.iol_core.specs.State.{State}
use Rattle.iol_core.specs.Meaning.{Meaning}
use Rattle.iol_core.specs.declared.numbers.BufId.{BufId}
use Rattle.iol_core.specs.declared.refusals.Refusal.{Refusal}
use Rattle.iol_hold.specs.Moves.{Shares}
use Rattle.iol_hold.specs.StoreState.{Stored}
use Rattle.iol_hold.proofs.Moves.{shares_move}
use Rattle.iol_kernel.specs.Calls.{Answers, Attempts}
use Rattle.iol_kernel.specs.KernelState.{KernelState, IsSound, read_of}
use Rattle.iol_kernel.specs.Readings.{Reading, KeepsPools}
use Rattle.iol_kernel.proofs.State.Stay.{stays_equal}

module _ {A : Type 0} (m : State → Meaning A) (h k : KernelState) (a : A) (sound : IsSound k) (sums : k.sums ≡ h.sums)
    (cache : k.cache ≡ h.cache) (answer : (f : Reading) → a ≡ (m (read_of f h)).answer) where
  -- the store is unchanged
  pub answers_here : k.store ≡ h.store → ((f : Reading) → read_of f k ≡ (m (read_of f h)).after) → Answers m h a k
  answers_here store after = record {
    answer = λ f keeps. answer f;
    after = λ f keeps. after f;
    arena = ap (λ (s : Stored). s.arena) store;
    pools = ap (λ (s : Stored). s.pools) store;
    sums = sums;
    cache = cache;
    sound = sound;
    stays = stays_equal h.store k.store store;
  }

  -- references change, and no page does
  pub answers_shared : {taken given : List BufId} → Shares h.store k.store taken given
      → ((f : Reading) → KeepsPools f → read_of f k ≡ (m (read_of f h)).after) → Answers m h a k
  answers_shared shares after = record {
    answer = λ f keeps. answer f;
    after = after;
    arena = shares.arena;
    pools = shares.pools;
    sums = sums;
    cache = cache;
    sound = sound;
    stays = (shares_move shares).stays;
  }

-- the same effect, as the meaning of another call
pub answers_as : {A : Type 0} (m n : State → Meaning A) (h k : KernelState) (a : A)
    → ((f : Reading) → (m (read_of f h)).answer ≡ (n (read_of f h)).answer)
    → ((f : Reading) → (m (read_of f h)).after ≡ (n (read_of f h)).after) → Answers m h a k → Answers n h a k
answers_as m n h k a answer after one = record {
  answer = λ f keeps. one.answer f keeps ∙ answer f;
  after = λ f keeps. one.after f keeps ∙ after f;
  arena = one.arena;
  pools = one.pools;
  sums = one.sums;
  cache = one.cache;
  sound = one.sound;
  stays = one.stays;
}

-- an effect that may need memory, done
pub attempted : {A E : Type 0} {m : State → Meaning A} {h k : KernelState} {a : A} → Answers m h a k
    → Attempts {E = E} m h (Ok a) k
attempted done = record { done = done; err = tt }

-- the refusal of a result
pub refusal_of : {A : Type 0} (x y : Refusal) → ◌≡◌ {A = Result A Refusal} (Err x) (Err y) → x ≡ y
refusal_of x y e = cc e
