-- The invariant of a client without a running script, from one phase to the next.
use Rattle.std.proofs.Common.{inl, inr, ◌≡◌, ℕ, List, [], ◌∷◌, ◌++◌, take, drop, ap, ◌∙◌, refl, sym, subst, None, true}
use Rattle.std.proofs.Common.{false, append-nil}
use Rattle.std.proofs.lemmas.List.{take-append-drop}
use Rattle.iol_core.specs.Text.{bytes_of}
use Rattle.iol_core.specs.State.{State, Connection}
use Rattle.flash_http.specs.Request.{Answer}
use Rattle.flash_laws.specs.Answers.{keeps, Reads}
use Rattle.flash_laws.specs.Client.{Client}
use Rattle.flash_laws.specs.Client.Fits.{FitsAlone, ConsistencyAlone, is_at_rest, given_of}
use Rattle.flash_laws.specs.Conn.Fits.{asked, quits}
use Rattle.flash_laws.specs.Conn.OfferedBytes.{taken_of}
use Rattle.flash_laws.specs.SiteContents.{SiteContents, MayBeExpected, Responds}
use Rattle.flash_laws.specs.declared.phase.Phase.{Phase}
use Rattle.flash_laws.specs.declared.phase.Phase.TheVariants.{Receiving, DroppingSent, Disconnecting}
use Rattle.flash_laws.proofs.Conn.Responses.{all-more, order-more, last-more}
use Rattle.flash_laws.proofs.Lists.{clash}
use Rattle.flash_laws.proofs.World.Responses.{responds-more, begins-consistency}

abbrev pub alone : (buffered script : List ℕ) → Answer → Phase → Client
alone buffered script q d = record {
  conn = record { buffered = buffered; request = q; phase = d };
  run = None;
  script = script;
}

-- the client's invariant in a state of the machine
abbrev pub FitsAt : SiteContents → (came sent : List ℕ) (fd c : ℕ) (buffered script : List ℕ) → State → Answer → Phase
    → Type 0
FitsAt site_contents came sent fd c buffered script s q d =
    FitsAlone site_contents s came sent fd c (alone buffered script q d)

-- the part of the response in progress that is written
abbrev pub part_of : (expected : List ℕ) → Phase → List ℕ
part_of expected d = given_of expected (is_at_rest d) (taken_of d)

-- the request is in progress, and this part of its response is written
abbrev pub Stands : (expected : List ℕ) → (q : Answer) → (part : List ℕ) → Phase → Type 0
Stands expected q part e = (asked q e ≡ q ∷ []) × (part_of expected e ≡ part) × (quits e ≡ false)

module _ (site_contents : SiteContents) (buffered script : List ℕ) where
  -- the invariant in phase d with one response implies that in phase e with the other
  abbrev pub ConsistenciesOn : (expected later : List ℕ) → Answer → (d e : Phase) → Type 0
  ConsistenciesOn expected later q d e = (k : Connection) (took sent : List ℕ)
      → ConsistencyAlone site_contents expected k took sent (alone buffered script q d)
      → ConsistencyAlone site_contents later k took sent (alone buffered script q e)

  -- this holds if the request in progress and the written part are the same
  pub consistency_on : (expected later : List ℕ) (q : Answer) (d e : Phase) → asked q e ≡ asked q d
      → part_of later e ≡ part_of expected d → quits d ≡ false → quits e ≡ false → ConsistenciesOn expected later q d e
  consistency_on expected later q d e same_asked same_given busy busy_e k took sent (inl o) = inl (
    busy_e,
    record {
      done = o.1.done;
      open_yet = o.1.open_yet;
      reads = subst (λ (l : List Answer). Reads took (o.1.done ++ l) buffered) (sym same_asked) o.1.reads;
      before = o.1.before;
      responds = o.1.responds;
      out_is = o.1.out_is ∙ ap (λ (l : List ℕ). o.1.before ++ l) (sym same_given);
    },
  )
  consistency_on expected later q d e same_asked same_given busy busy_e k took sent (inr (inl h)) =
      absurd (clash (quits d) h.quits busy)
  consistency_on expected later q d e same_asked same_given busy busy_e k took sent (inr (inr g)) = inr (inr g)

  -- this holds if neither phase writes more
  pub hush : (expected later : List ℕ) (q : Answer) (d e : Phase) → quits d ≡ true → quits e ≡ true
      → ConsistenciesOn expected later q d e
  hush expected later q d e quit quit_e k took sent (inl o) = absurd (clash (quits d) quit o.0)
  hush expected later q d e quit quit_e k took sent (inr (inl h)) =
      inr (inl (record { quits = quit_e; finished = h.finished; begins = h.begins }))
  hush expected later q d e quit quit_e k took sent (inr (inr g)) = inr (inr g)

  module _ (expected : List ℕ) (q : Answer) (may : MayBeExpected site_contents q expected) where
    -- the responses after one more response is taken whole
    taken-whole : (taken : ℕ) (done : List Answer) (before out : List ℕ) → Responds site_contents done before
        → drop taken expected ≡ [] → out ≡ before ++ take taken expected → Responds site_contents (done ++ q ∷ []) out
    taken-whole taken done before out were none is =
        subst (λ (l : List ℕ). Responds site_contents (done ++ q ∷ []) l) (sym (is ∙ ap (λ (l : List ℕ). before ++ l)
        (sym (append-nil (take taken expected))
        ∙ (ap (λ (l : List ℕ). take taken expected ++ l) (sym none) ∙ take-append-drop taken expected))))
        (responds-more site_contents done q before expected were may)

    pub ends : (a taken : ℕ) → keeps q ≡ true → drop taken expected ≡ []
        → ConsistenciesOn expected expected q (DroppingSent a taken None) Receiving
    ends a taken keep none k took sent (inl o) = inl (
      refl,
      record {
        done = o.1.done ++ q ∷ [];
        open_yet = all-more o.1.done q o.1.open_yet keep;
        reads = subst (λ (l : List Answer). Reads took l buffered) (sym (append-nil (o.1.done ++ q ∷ []))) o.1.reads;
        before = sent ++ bytes_of k.outgoing;
        responds = taken-whole taken o.1.done o.1.before (sent ++ bytes_of k.outgoing) o.1.responds none o.1.out_is;
        out_is = sym (append-nil (sent ++ bytes_of k.outgoing));
      },
    )
    ends a taken keep none k took sent (inr (inl h)) = absurd (let bad = h.quits in cc (bad))
    ends a taken keep none k took sent (inr (inr g)) = inr (inr g)

    -- the last response is taken whole: the connection is closed next
    pub ends-last : (a taken : ℕ) → keeps q ≡ false → drop taken expected ≡ []
        → ConsistenciesOn expected expected q (DroppingSent a taken None) Disconnecting
    ends-last a taken last none k took sent (inl o) = inr (inl (record {
      quits = refl;
      finished = record {
        qs = o.1.done ++ q ∷ [];
        rest = buffered;
        reads = o.1.reads;
        order = order-more o.1.done q o.1.open_yet;
        responds = taken-whole taken o.1.done o.1.before (sent ++ bytes_of k.outgoing) o.1.responds none o.1.out_is;
        no_more = inl (last-more o.1.done q last);
      };
      begins = begins-consistency site_contents k took sent (alone buffered script q (DroppingSent a taken None))
          expected
          may
          (inl o);
    }))
    ends-last a taken last none k took sent (inr (inl h)) = absurd (let bad = h.quits in cc (bad))
    ends-last a taken last none k took sent (inr (inr g)) = inr (inr g)
