-- A site that was set up in a new machine: its world is new.
use Rattle.std.proofs.Common.{◌≡◌, ◌≤◌, ◌<◌, ℕ, ◌+◌, List, [], length, refl, subst, ap, None, true}
use Rattle.iol_core.specs.NumberedLists.{numbered_or}
use Rattle.iol_core.specs.Run.{Run}
use Rattle.iol_core.specs.State.{State, new_state, content}
use Rattle.iol_core.specs.declared.events.Event.{Event}
use Rattle.iol_core.specs.declared.events.Reply.{Reply}
use Rattle.iol_core.specs.declared.limits.TheConstants.{MAX_FILE_BYTES}
use Rattle.flash_lite.specs.Setup.{SetsUp, calls, first_refusal, is_in_range}
use Rattle.flash_lite.specs.SiteState.{state_of}
use Rattle.flash_lite.specs.declared.site.Site.{Site}
use Rattle.flash_lite.proofs.Calls.FileCalls.{IsShort}
use Rattle.flash_lite.proofs.Calls.Outcome.{Led, led, calls_plain}
use Rattle.flash_lite.proofs.Calls.PassedRuns.{Passes, run_passes, slots_stay}

-- the slots have exactly these contents
abbrev pub Just : List (List ℕ) → List (List ℕ) → Type 0
Just slots x = x ≡ slots

pub sets_up_by : (s : Site) (old new : State) (es : List Event) (rs : List Reply) → es ≡ calls s → Run old es rs new
    → first_refusal rs ≡ None → SetsUp s old new
sets_up_by s old new es rs is run none =
    record { replies = rs; run = subst (λ (l : List Event). Run old l rs new) is run; passed = none }

pub led_by : (s : Site) (slots : List (List ℕ)) (old new : State) → is_in_range s ≡ true → SetsUp s old new
    → old ≡ new_state slots → Led (Just slots) s slots new
led_by s slots old new fits set is =
    let same : old.slots ≡ slots = ap (λ (m : State). m.slots) is in
    led (Just slots) s slots new fits
    (subst (λ (m : State). Passes (Just slots) m (calls s) new) is
    (run_passes (calls s) set.replies slots old new same (calls_plain s) set.run set.passed))

-- each file is within the limit, by the contents of its slot
pub shorts : (s : Site) (slots : List (List ℕ)) → ((i : ℕ) → i < length s.files.items → IsShort (Just slots) (i + 1))
    → (i : ℕ) → i < length s.files.items → length (content (state_of s slots) (i + 1)) ≤ MAX_FILE_BYTES
unfolding content
shorts s slots short i within = let one = short i within in
    subst (λ (x : List (List ℕ)). length (numbered_or x (i + 1) []) ≤ MAX_FILE_BYTES) one.theirs one.within

pub slots_kept : (s : Site) (old new : State) → SetsUp s old new → new.slots ≡ old.slots
slots_kept s old new set =
    slots_stay (Just old.slots) (calls s) old new
    (run_passes (calls s) set.replies old.slots old new refl (calls_plain s) set.run set.passed)
