-- The processes of a world, the server and workers, and the history of choices and replies. W is the type of a worker.
use Rattle.std.specs.Prelude.{ℕ, ◌||◌, Bool, false, List, ◌∷◌, Option}
use Rattle.iol_core.specs.declared.events.Event.{Event}
use Rattle.iol_core.specs.declared.events.Reply.{Reply}
use Rattle.iol_proc.specs.Turns.{TransitionRelation}
use Rattle.iol_proc.specs.Histories.{stream_over, sent_over}
use Rattle.iol_proc.specs.declared.choice.Choice.{Choice}
use Rattle.iol_proc.specs.declared.choice.Choice.TheVariants as choice
use Rattle.iol_proc.specs.declared.process.Turn.{Turn}
use Rattle.flash_laws.specs.Site.Past.{Past, made_by, gone_by, given_by}
use Rattle.flash_laws.specs.Serves.{Server, Policy, server_turns}
use Rattle.flash_laws.specs.Serves.Wants.{server_wants}

-- ---- the history of choices and replies

-- whether a choice is such an event, with this reply
abbrev pub reports_with : (Event → Reply → Bool) → Choice → Reply → Bool
reports_with p (choice.Outside e) r = p e r
reports_with p (choice.Turn by) r = false

-- whether one of these is
unfoldable pub reports_over : (Event → Reply → Bool) → List Choice → List Reply → Bool
reports_over p (x ∷ xs) (r ∷ rs) = reports_with p x r || reports_over p xs rs
reports_over p xs rs = false

-- whether one of them made this connection in the pool `net`
unfoldable pub made_over : (c : ℕ) → List Choice → List Reply → Bool
made_over c xs rs = reports_over (λ e r. made_by c e r) xs rs

-- whether one of them reported that the peer of this connection left
unfoldable pub gone_over : (c : ℕ) → List Choice → List Reply → Bool
gone_over c xs rs = reports_over (λ e r. gone_by c e r) xs rs

-- whether one of them gave the server an aggregate, under this number
unfoldable pub given_over : (a : ℕ) → List Choice → List Reply → Bool
given_over a xs rs = reports_over (λ e r. given_by a e r) xs rs

abbrev pub past_of : List Choice → List Reply → Past
past_of xs rs = record {
  came = λ c. stream_over c xs rs;
  sent = λ c. sent_over c xs rs;
  net = λ c. made_over c xs rs;
  gone = λ c. gone_over c xs rs;
  given = λ a. given_over a xs rs;
}

-- ---- processes

-- a process of a world: the server, or a worker
pub data Actor (W : Type 0) : Type 0 where
  Serving : (s : Server) → Actor W
  Working : (w : W) → Actor W

-- the server by itself: the turns that it takes, and when it may need memory
abbrev pub server_transitions : Policy → TransitionRelation Server
server_transitions may = record { goes = server_turns may; may_want = server_wants }

-- when a process may need memory
abbrev pub actor_wants : {W : Type 0} → TransitionRelation W → Actor W → Reply → (readable : ℕ → Option (List ℕ))
    → Type 0
actor_wants works (Serving s) last readable = server_wants s last readable
actor_wants works (Working w) last readable = works.may_want w last readable

module _ (may : Policy) {W : Type 0} (works : TransitionRelation W) where
  -- the turns that it takes
  abbrev pub actor_goes : Actor W → Reply → (readable : ℕ → Option (List ℕ)) → Turn → Actor W → Type 0
  actor_goes (Serving s) last readable t (Serving after) = server_turns may s last readable t after
  actor_goes (Working w) last readable t (Working after) = works.goes w last readable t after
  actor_goes x last readable t y = ⊥

  abbrev pub actor_turns : TransitionRelation (Actor W)
  actor_turns = record { goes = actor_goes; may_want = actor_wants works }
