-- A script's text on its way to the reader of its pipe: it is expected from its worker, or in the pipe once all is
-- written.
use Rattle.std.specs.Prelude.{◌≡◌, ◌⊎◌, ◌<◌, ℕ, Bool, List, [], ◌++◌, Some, IsTrue, IsFalse}
use Rattle.iol_core.specs.Text.{bytes_of}
use Rattle.iol_core.specs.State.{State, descriptor, pipe_at}
use Rattle.iol_core.specs.Positions.{ArePlaced}
use Rattle.iol_core.specs.Run.{StepsTo}
use Rattle.iol_core.specs.declared.descriptors.Descriptor.TheVariants as on
use Rattle.iol_core.specs.declared.refusals.Refusal.TheVariants.{Denied}
use Rattle.iol_core.specs.declared.events.Call.TheVariants as call
use Rattle.iol_core.specs.declared.events.Event.{Event}
use Rattle.iol_core.specs.declared.events.Event.TheVariants as event
use Rattle.iol_core.specs.declared.events.Reply.{Reply}
use Rattle.iol_core.specs.declared.events.Reply.TheVariants as reply
use Rattle.iol_laws.specs.Caller.{readable_at}
use Rattle.iol_laws.specs.Order.{IsOrderly}
use Rattle.iol_laws.specs.Sources.{MayReadAll, lie_in}
use Rattle.iol_proc.specs.Turns.{TransitionRelation, ProcessSlotTurn}
use Rattle.iol_proc.specs.World.{copying}
use Rattle.iol_proc.specs.declared.process_slot.ProcessSlot.{ProcessSlot}
use Rattle.flash_cgi.specs.Beside.{is_call_of, LeavesFiles}
use Rattle.flash_cgi.specs.Expected.{Instead, Made}
use Rattle.flash_cgi.specs.Outcomes.{AreFiles}
use Rattle.flash_cgi.specs.OutputPools.{HoldFiles}

-- Free and Expected are those of `WorkersRun`.
module _ {W : Type 0} (works : TransitionRelation W) (pools : ℕ → Bool) (Free : State → (j : ℕ) → ProcessSlot W
    → Type 0)
    (Expected : State → (j p : ℕ) → ProcessSlot W → Made → (text : List ℕ) → Type 0) where
  -- all of the text is in the pipe, which has no writer any more, and its worker is free
  pub record IsAllThere (m : State) (j p : ℕ) (process_slot : ProcessSlot W) (text : List ℕ) : Type 0 where
    pub all : text ≡ bytes_of (pipe_at m p).queue
    pub closed : IsFalse (pipe_at m p).writing
    pub free : Free m j process_slot
    pub lies : IsTrue (lie_in pools (pipe_at m p).queue)

  -- of the output of the script, this text is expected from pipe p, followed by its end
  abbrev pub DeliversText : State → (j p : ℕ) → ProcessSlot W → Made → (text : List ℕ) → Type 0
  DeliversText m j p process_slot made text = Expected m j p process_slot made text ⊎ IsAllThere m j p process_slot text

  -- these bytes were its front
  pub record HasRead (n : State) (j p : ℕ) (process_slot : ProcessSlot W) (made : Made) (text bytes : List ℕ) :
      Type 0 where
    pub rest : List ℕ
    pub splits : text ≡ bytes ++ rest
    pub delivers_text : DeliversText n j p process_slot made rest

  -- after a turn with this reply it is the same, or its replacement
  pub record StillDeliversText (n : State) (j p : ℕ) (next : ProcessSlot W) (made : Made) (text : List ℕ) (r : Reply) :
      Type 0 where
    pub after : Made
    pub later : List ℕ
    pub instead : Instead r made after text later
    pub delivers_text : DeliversText n j p next after later

  pub record TextsAreDelivered : Type 0 where
    -- a turn of the worker preserves the text, or replaces it, while the pipe has a reader
    pub turns : (m n : State) (j p : ℕ) (process_slot next : ProcessSlot W) (yields : Bool) (r : Reply) (made : Made)
        (text : List ℕ) → IsOrderly m
        → ArePlaced m → AreFiles m → HoldFiles pools m process_slot.by → DeliversText m j p process_slot made text
        → ProcessSlotTurn copying works m process_slot yields r n next → IsTrue (pipe_at m p).reading
        → IsTrue (pipe_at n p).reading
        → StillDeliversText n j p next made text r
    -- the same for events of others that do not change the files and both pipes
    pub left : (m n : State) (j p : ℕ) (process_slot : ProcessSlot W) (e : Event) (r : Reply) (made : Made)
        (text : List ℕ) → IsOrderly m
        → ArePlaced m → StepsTo m e r n → IsFalse (is_call_of e process_slot.by) → LeavesFiles m process_slot.by n
        → pipe_at n j ≡ pipe_at m j
        → pipe_at n p ≡ pipe_at m p → DeliversText m j p process_slot made text
        → DeliversText n j p process_slot made text
    -- a read of the pipe gives its front
    pub reads : (m n : State) (j p by fd count a : ℕ) (process_slot : ProcessSlot W) (made : Made) (text bytes : List ℕ)
        → IsOrderly m → ArePlaced m
        → StepsTo m (event.Call by (call.IolRead fd count)) (reply.Agg a) n
        → IsFalse (is_call_of (event.Call by (call.IolRead fd count)) process_slot.by)
        → descriptor m by fd ≡ Some (on.ReadEnd p) → LeavesFiles m process_slot.by n → pipe_at n j ≡ pipe_at m j
        → readable_at n by a ≡ Some bytes → DeliversText m j p process_slot made text
        → HasRead n j p process_slot made text bytes
    -- a read of no bytes means the end: nothing more is expected, and the worker is free
    pub ends : (m n : State) (j p by fd count a : ℕ) (process_slot : ProcessSlot W) (made : Made) (text : List ℕ)
        → IsOrderly m → ArePlaced m
        → 0 < count
        → StepsTo m (event.Call by (call.IolRead fd count)) (reply.Agg a) n
        → IsFalse (is_call_of (event.Call by (call.IolRead fd count)) process_slot.by)
        → descriptor m by fd ≡ Some (on.ReadEnd p) → LeavesFiles m process_slot.by n → pipe_at n j ≡ pipe_at m j
        → readable_at n by a ≡ Some [] → DeliversText m j p process_slot made text → (text ≡ []) × Free n j process_slot
    -- and a domain that may read these pools is never denied a read
    pub undenied : (m n : State) (j p by fd count q : ℕ) (process_slot : ProcessSlot W) (made : Made) (text : List ℕ)
        → MayReadAll m by pools
        → descriptor m by fd ≡ Some (on.ReadEnd p) → DeliversText m j p process_slot made text
        → ¬ StepsTo m (event.Call by (call.IolRead fd count)) (reply.Refused (Denied q)) n
