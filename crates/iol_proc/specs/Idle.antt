-- Turns in rounds, and the condition on which they stop.
use Rattle.std.specs.Prelude.{◌≡◌, ◌<◌, ◌≤◌, ◌+◌, ◌%◌, ℕ, zero, suc, List, [], ◌∷◌, length, map, take, replicate, Bool}
use Rattle.std.specs.Prelude.{if◌then◌else◌, nat_lt, nat_le, slice_index, slice_set, IsFalse}
use Rattle.std.specs.List.{list_all}
use Rattle.iol_core.specs.declared.events.Reply.{Reply}
use Rattle.iol_proc.specs.Turns.{Machine, TransitionRelation, is_would_block}
use Rattle.iol_system.specs.Machine.{SystemState}
use Rattle.iol_proc.specs.World.{WorldState, PlaceTurn, WorldRun, copied, copying, domains_of, sharing}
use Rattle.iol_proc.specs.declared.choice.Choice.{Choice}
use Rattle.iol_proc.specs.declared.choice.Choice.TheVariants as choice
use Rattle.iol_proc.specs.declared.turn.Outcome.{Outcome}

-- a turn: whether the process yielded, and the reply
abbrev pub Went : Type 0
Went = Bool × Reply

-- the turn of an outcome
abbrev pub went : Outcome → Went
went o = (o.yields, o.reply)

-- one more, up to two
abbrev pub more_of_two : ℕ → ℕ
more_of_two n = if nat_lt n 2 then n + 1 else n

-- The number of yields of each process, up to two, after one more turn. A yield counts, WouldBlock leaves the counts
-- unchanged, and any other reply resets them.
abbrev pub counted : List ℕ → (place : ℕ) → Went → List ℕ
counted ns place t =
    if t.0 then slice_set ns place (more_of_two (slice_index ns place))
    else (if is_would_block t.1 then ns else replicate (length ns) 0)

-- the same after turns in rounds, from the i-th on
abbrev pub counted_over : List ℕ → (i : ℕ) → List Went → List ℕ
counted_over ns i [] = ns
counted_over ns i (t ∷ ts) = counted_over (counted ns (i % length ns) t) (suc i) ts

-- the number of yields of each of n processes, since the first turn or the last whose reply was not WouldBlock
abbrev pub yields_of : (n : ℕ) → List Went → List ℕ
yields_of n ts = counted_over (replicate n 0) 0 ts

-- every process yielded twice
abbrev pub is_idle : List ℕ → Bool
is_idle ns = list_all (λ n. nat_le 2 n) ns

-- the choices of n turns in rounds, from the i-th on
abbrev pub rounds : (domains : List ℕ) → (i n : ℕ) → List Choice
rounds ds i zero = []
rounds ds i (suc n) = choice.Turn (slice_index ds (i % length ds)) ∷ rounds ds (suc i) n

module _ {M P : Type 0} (machine : Machine M) (turns : TransitionRelation P) where
  -- Turns in rounds, from the i-th on: the processes in order of index, then the first again.
  abbrev pub RoundRun : WorldState M P → (i : ℕ) → List Went → WorldState M P → Type 0
  RoundRun w i [] after = after ≡ w
  RoundRun w i (t ∷ ts) after =
      (mid : WorldState M P) × PlaceTurn machine turns w (i % length w.process_slots) t.0 t.1 mid
      × RoundRun mid (suc i) ts after

  -- Turns in rounds in ascending order of domains, up to the maximum number, or until every process has yielded twice
  -- since the last turn whose reply was not WouldBlock.
  pub record Idles (w : WorldState M P) (most : ℕ) (idle : Bool) (after : WorldState M P) : Type 0 where
    pub went : List Went
    pub ran : RoundRun w 0 went after
    pub run : WorldRun machine turns w (rounds (domains_of w.process_slots) 0 (length went)) (map (λ t. t.1) went) after
    pub within : length went ≤ most
    pub reported : idle ≡ is_idle (yields_of (length w.process_slots) went)
    pub first : (j : ℕ) → j < length went → IsFalse (is_idle (yields_of (length w.process_slots) (take j went)))
    pub all_taken : IsFalse idle → length went ≡ most

module _ {P : Type 0} (turns : TransitionRelation P) where
  -- a turn of the process at this index of a world, with this outcome
  abbrev pub TurnGoes : WorldState SystemState P → (place : ℕ) → Outcome → WorldState SystemState P → Type 0
  TurnGoes w place o after = PlaceTurn sharing turns w place o.yields o.reply after

  -- turns in rounds, in a world and in the copying machine
  abbrev pub RoundsGo : WorldState SystemState P → (most : ℕ) (idle : Bool) → WorldState SystemState P → Type 0
  RoundsGo w most idle after = Idles sharing turns w most idle after

  abbrev pub CopiedIdles : WorldState SystemState P → (most : ℕ) (idle : Bool) → WorldState SystemState P → Type 0
  CopiedIdles w most idle after = Idles copying turns (copied w) most idle (copied after)
