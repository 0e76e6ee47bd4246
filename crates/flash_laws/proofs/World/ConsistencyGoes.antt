-- The invariant of a client is preserved if its connection continues; or the peer is gone, and the sent bytes begin the
-- answer.
use Rattle.std.proofs.Common.{inl, inr, ◌≡◌, ℕ, ◌+◌, List, [], ◌∷◌, ◌++◌, take, ◌∙◌, subst, true, false}
use Rattle.std.specs.Prelude.{is_none}
use Rattle.iol_core.specs.Text.{bytes_of}
use Rattle.iol_core.specs.State.{Connection, is_gone}
use Rattle.flash_http.specs.Request.{serve, Wanted}
use Rattle.flash_laws.specs.Client.{Client}
use Rattle.flash_laws.specs.Client.Fits.{is_at_rest, Answers, IsLeftAlone, given_of, IsFinished, ConsistencyAlone}
use Rattle.flash_laws.specs.Client.Fits.{ConsistencyRun}
use Rattle.flash_laws.specs.Conn.Fits.{asked}
use Rattle.flash_laws.specs.Conn.OfferedBytes.{taken_of}
use Rattle.flash_laws.specs.Run.Fits.{Progress}
use Rattle.flash_laws.specs.Run.OfferedBytes.{past_of, taken_by}
use Rattle.flash_laws.specs.SiteContents.{SiteContents, Begins, MayBeExpected, Responds}
use Rattle.flash_laws.specs.declared.phase.Phase.{Phase}
use Rattle.flash_laws.specs.declared.script_run.Running.{Running}
use Rattle.flash_laws.proofs.World.Responses.{begins-less, begins-consistency, begins-run}

-- ---- the sent and the queued bytes stay, and so does the peer, unless it closes

module _ (site_contents : SiteContents) (k j : Connection) (took sent after : List ℕ)
    (total : sent ++ bytes_of k.outgoing ≡ after ++ bytes_of j.outgoing)
    (gone : is_gone j.peer ≡ is_gone k.peer) (ended : is_none k.peer ≡ false
    → (j.incoming ≡ k.incoming) × (is_none j.peer ≡ false)) where
  finished-stays : (d : Phase) → IsFinished site_contents k took (sent ++ bytes_of k.outgoing) d
      → IsFinished site_contents j took (after ++ bytes_of j.outgoing) d
  finished-stays d f = record {
    quits = f.quits;
    finished = record {
      qs = f.finished.qs;
      rest = f.finished.rest;
      reads = f.finished.reads;
      order = f.finished.order;
      responds = subst (λ (l : List ℕ). Responds site_contents f.finished.qs l) total f.finished.responds;
      no_more = (elim f.finished.no_more [
        | inl last ↦ inl last
        | inr end ↦ (let now = ended end.2 in inr (end.0, now.0 ∙ end.1, now.1))
      ]);
    };
    begins = subst (λ (l : List ℕ). Begins site_contents took l) total f.begins;
  }

  left-stays : IsLeftAlone site_contents k took (sent ++ bytes_of k.outgoing)
      → IsLeftAlone site_contents j took (after ++ bytes_of j.outgoing)
  left-stays l =
      record { gone = gone ∙ l.gone; begins = subst (λ (l : List ℕ). Begins site_contents took l) total l.begins }

  pub consistency-stays : (x : Client) (expected : List ℕ) → ConsistencyAlone site_contents expected k took sent x
      → ConsistencyAlone site_contents expected j took after x
  consistency-stays x expected (inl a) = inl (
    a.0,
    subst (λ (l : List ℕ). Answers site_contents took l x.conn.buffered (asked x.conn.request x.conn.phase)
        (given_of expected (is_at_rest x.conn.phase) (taken_of x.conn.phase))) total a.1,
  )
  consistency-stays x expected (inr (inl f)) = inr (inl (finished-stays x.conn.phase f))
  consistency-stays x expected (inr (inr l)) = inr (inr (left-stays l))

  pub run-stays : (buffered : List ℕ) (w : Wanted) (expected : List ℕ) (o : Progress) (y : Running)
      → ConsistencyRun site_contents expected k took sent buffered w o y
      → ConsistencyRun site_contents expected j took after buffered w o y
  run-stays buffered w expected o y (inl g) = inl (record {
    answers =
        subst
        (λ (l : List ℕ). Answers site_contents took l buffered (serve w ∷ []) (take (past_of o + taken_by y) expected))
        total g.answers;
    may = g.may;
    whole = g.whole;
  })
  run-stays buffered w expected o y (inr l) = inr (left-stays l)

-- ---- the peer is gone, and the queued bytes are dropped

module _ (site_contents : SiteContents) (k j : Connection) (took sent after dropped : List ℕ)
    (gone : is_gone j.peer ≡ true)
    (total : sent ++ bytes_of k.outgoing ≡ (after ++ bytes_of j.outgoing) ++ dropped) where
  left-alone : Begins site_contents took (sent ++ bytes_of k.outgoing)
      → IsLeftAlone site_contents j took (after ++ bytes_of j.outgoing)
  left-alone begins =
      record {
        gone = gone;
        begins =
            begins-less site_contents took (after ++ bytes_of j.outgoing) dropped
            (subst (λ (l : List ℕ). Begins site_contents took l) total begins);
      }

  pub consistency-leaves : (x : Client) (expected : List ℕ) → MayBeExpected site_contents x.conn.request expected
      → ConsistencyAlone site_contents expected k took sent x → ConsistencyAlone site_contents expected j took after x
  consistency-leaves x expected may consistency =
      inr (inr (left-alone (begins-consistency site_contents k took sent x expected may consistency)))

  pub run-leaves : (buffered : List ℕ) (w : Wanted) (expected : List ℕ) → MayBeExpected site_contents (serve w) expected
      → (o : Progress) (y : Running) → ConsistencyRun site_contents expected k took sent buffered w o y
      → ConsistencyRun site_contents expected j took after buffered w o y
  run-leaves buffered w expected may o y consistency =
      inr (left-alone (begins-run site_contents k took sent buffered w expected may o y consistency))
