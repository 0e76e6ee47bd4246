-- Descriptors are opened only under numbers in replies, and these numbers are below the limit.
use Rattle.std.specs.Prelude.{◌≡◌, ℕ, ◌<◌, ◌==◌, ◌&&◌, ◌||◌, Bool, false, List, Some, None, IsTrue, IsFalse}
use Rattle.iol_core.specs.State.{State, descriptor, new_state}
use Rattle.iol_core.specs.Run.{StepsTo, Run}
use Rattle.iol_core.specs.declared.limits.TheConstants.{MAX_OPEN}
use Rattle.iol_core.specs.declared.descriptors.Descriptor.{Descriptor}
use Rattle.iol_core.specs.declared.events.Call.TheVariants as call
use Rattle.iol_core.specs.declared.events.Event.{Event}
use Rattle.iol_core.specs.declared.events.Event.TheVariants as event
use Rattle.iol_core.specs.declared.events.Reply.{Reply}
use Rattle.iol_core.specs.declared.events.Reply.TheVariants as reply

-- whether the reply gives the domain this number of a descriptor: as the caller, or as the receiver of a given
-- descriptor
abbrev pub opens : Event → Reply → (d fd : ℕ) → Bool
opens (event.Call by (call.GiveFd f to)) (reply.Fd g) d fd = (to == d) && (g == fd)
opens (event.Call by k) (reply.Fd g) d fd = (by == d) && (g == fd)
opens (event.Call by k) (reply.Fds g h) d fd = (by == d) && ((g == fd) || (h == fd))
opens e r d fd = false

-- whether the reply gives this number of a descriptor to any domain
abbrev pub gives_number : Reply → (fd : ℕ) → Bool
gives_number (reply.Fd g) fd = g == fd
gives_number (reply.Fds g h) fd = (g == fd) || (h == fd)
gives_number r fd = false

-- each open descriptor has a number below the limit
abbrev pub AreLow : State → Type 0
AreLow s = (d fd : ℕ) (x : Descriptor) → descriptor s d fd ≡ Some x → fd < MAX_OPEN

pub record DescriptorsComeByReplies : Type 0 where
  -- a descriptor that is not open is not open after a step that does not give the domain its number
  pub none : (s t : State) (e : Event) (r : Reply) (d fd : ℕ) → StepsTo s e r t → descriptor s d fd ≡ None
      → IsFalse (opens e r d fd) → descriptor t d fd ≡ None
  -- numbers are below the limit: in a new state, after each step, and so in each reachable state
  pub new : (slots : List (List ℕ)) → AreLow (new_state slots)
  pub step : (s t : State) (e : Event) (r : Reply) → AreLow s → StepsTo s e r t → AreLow t
  pub reached : (slots : List (List ℕ)) (t : State) (es : List Event) (rs : List Reply) → Run (new_state slots) es rs t
      → AreLow t
  -- the same for the numbers that replies give
  pub given : (s t : State) (e : Event) (r : Reply) (fd : ℕ) → AreLow s → StepsTo s e r t → IsTrue (gives_number r fd)
      → fd < MAX_OPEN
