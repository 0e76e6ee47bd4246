-- All bytes of a connection that is over were sent.
use Rattle.std.proofs.Common.{◌≡◌, ℕ, true, List, [], Option, None, Some, refl, ap, subst, is_none, unwrap_or}
use Rattle.iol_core.specs.Calls.Outside.{lacks_conn}
use Rattle.iol_core.specs.NumberedLists.{lookup}
use Rattle.iol_core.specs.State.{State, Connection, conn_at, no_conn}
use Rattle.iol_core.specs.Text.{bytes_of}
use Rattle.iol_laws.specs.History.{GoesFirst}
use Rattle.iol_proc.specs.Histories.{HistoriesOfChoices, sent_over}
use Rattle.iol_proc.specs.Turns.{TransitionRelation}
use Rattle.iol_serve.specs.Laws.{OverIsWhole}

none_lacking : (found : Option Connection) → is_none found ≡ true → found ≡ None
none_lacking None lacks = refl
none_lacking (Some x) lacks = absurd (cc lacks)

-- a connection that does not exist has no queued output
lacking_sends_none : (s : State) (c : ℕ) → lacks_conn s c ≡ true → bytes_of (conn_at s c).outgoing ≡ []
unfolding conn_at
lacking_sends_none s c lacks =
    ap (λ (found : Option Connection). bytes_of (unwrap_or found no_conn).outgoing)
    (none_lacking (lookup s.conns c) lacks)

pub over_whole : {P : Type 0} (turns : TransitionRelation P) → HistoriesOfChoices turns → OverIsWhole turns
over_whole turns histories c left rest held now w after orderly served lacks =
    let on = served.proceeds in
    let all = histories.unsent w after on.choices on.replies c orderly on.run on.reports in
    subst (λ (l : List ℕ). GoesFirst (bytes_of (conn_at w.machine c).outgoing) l []) on.goes
    (subst (λ (l : List ℕ). GoesFirst (bytes_of (conn_at w.machine c).outgoing) (sent_over c on.choices on.replies) l)
    (lacking_sends_none after.machine c lacks) all)
