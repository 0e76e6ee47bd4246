-- The history of a connection of a world that serves, step by step.
use Rattle.std.proofs.Common.{◌≡◌, ◌==◌, ◌∙◌, ℕ, Bool, true, false, ◌||◌, List, [], ◌∷◌, ◌++◌, refl, sym, ap, subst}
use Rattle.std.proofs.Common.{arith, append-nil, take, if◌then◌else◌}
use Rattle.std.specs.Prelude.{◌≢◌}
use Rattle.std.specs.List.{list_any}
use Rattle.std.proofs.lemmas.Bool.Decides.{nat_tests}
use Rattle.std.proofs.Math.Logic.{∥∥₁_map}
use Rattle.std.proofs.lemmas.List.{append_cancel_right}
use Rattle.std.proofs.lemmas.List.Folds.{list_any-append}
use Rattle.iol_back.specs.Disk.{IfHonest}
use Rattle.iol_core.specs.State.{State}
use Rattle.iol_core.specs.declared.descriptors.How.TheVariants.{Done, Gone}
use Rattle.iol_core.specs.declared.events.Event.TheVariants as event
use Rattle.iol_core.specs.declared.events.Reply.{Reply}
use Rattle.iol_core.specs.declared.events.Reply.TheVariants as reply
use Rattle.iol_proc.specs.Histories.{stream_over, sent_over, came_with, sent_with, drops_with}
use Rattle.iol_core.specs.Calls.Outside.{lacks_conn}
use Rattle.iol_system.specs.Machine.{SystemState, machine_of, tables_of}
use Rattle.iol_system.specs.Prelude.{read_of, state_view}
use Rattle.iol_proc.specs.Laws.{KeepsHonesty}
use Rattle.iol_proc.specs.Turns.{TransitionRelation}
use Rattle.iol_proc.specs.World.{WorldState, copied, copying, OutsideStep}
use Rattle.iol_proc.specs.declared.choice.Choice.{Choice}
use Rattle.iol_proc.specs.declared.choice.Choice.TheVariants as choice
use Rattle.iol_proc.proofs.Streams.{runs_follow, stream_over-append, sent_over-append}
use Rattle.iol_serve.specs.Service.{IsOn, AreOn, Proceeds}
use Rattle.iol_reactor.specs.Serving.{Arrives, HasServed}
use Rattle.iol_reactor.specs.Visits.{Carries, HasVisited, Visits, VisitsArrive, VisitsContinue, VisitsAdvance}
use Rattle.iol_reactor.specs.Visits.{VisitsStay}
use Rattle.iol_reactor.proofs.Serving.{serving-append, serving_all}

-- ---- events of other connections add no bytes to this one

-- e equals d, so it is not c
differs : (d c e : ℕ) → d ≢ c → e ≡ d → (e == c) ≡ false
differs d c e apart same = grind (arith, nat_tests, apart, same)

none_if : (b : Bool) (xs : List ℕ) → b ≡ false → (if b then xs else []) ≡ []
none_if false xs is = refl
none_if true xs is = absurd (cc (is))

came_other : (d c : ℕ) (x : Choice) (r : Reply) → d ≢ c → IsOn d x → came_with c x r ≡ []
came_other d c (choice.Turn by) r apart on = refl
came_other d c (choice.Outside (event.Arrive e bytes)) (reply.Count k) apart on =
    none_if (e == c) (take k bytes) (differs d c e apart on)
came_other d c (choice.Outside (event.Arrive e bytes)) r apart on = refl
came_other d c (choice.Outside (event.PeerClosed e how)) r apart on = refl
came_other d c (choice.Outside (event.Transmit e max)) r apart on = refl
came_other d c (choice.Outside e) r apart on = absurd on

sent_other : (d c : ℕ) (x : Choice) (r : Reply) → d ≢ c → IsOn d x → sent_with c x r ≡ []
sent_other d c (choice.Turn by) r apart on = refl
sent_other d c (choice.Outside (event.Arrive e bytes)) r apart on = refl
sent_other d c (choice.Outside (event.PeerClosed e how)) r apart on = refl
sent_other d c (choice.Outside (event.Transmit e max)) (reply.Segment bytes sum) apart on =
    none_if (e == c) bytes (differs d c e apart on)
sent_other d c (choice.Outside (event.Transmit e max)) r apart on = refl
sent_other d c (choice.Outside e) r apart on = absurd on

drops_other : (d c : ℕ) (x : Choice) → d ≢ c → IsOn d x → drops_with x c ≡ false
drops_other d c (choice.Turn by) apart on = refl
drops_other d c (choice.Outside (event.Arrive e bytes)) apart on = refl
drops_other d c (choice.Outside (event.PeerClosed e Done)) apart on = refl
drops_other d c (choice.Outside (event.PeerClosed e Gone)) apart on = differs d c e apart on
drops_other d c (choice.Outside (event.Transmit e max)) apart on = refl
drops_other d c (choice.Outside e) apart on = absurd on

-- the whole of a list of choices
streams_other : (d c : ℕ) (xs : List Choice) (rs : List Reply) → d ≢ c → AreOn d xs → stream_over c xs rs ≡ []
unfolding stream_over
streams_other d c [] rs apart on = refl
streams_other d c (x ∷ xs) [] apart on = refl
streams_other d c (x ∷ xs) (r ∷ rs) apart on =
    ap (λ (l : List ℕ). l ++ stream_over c xs rs) (came_other d c x r apart on.0) ∙ streams_other d c xs rs apart on.1

sents_other : (d c : ℕ) (xs : List Choice) (rs : List Reply) → d ≢ c → AreOn d xs → sent_over c xs rs ≡ []
unfolding sent_over
sents_other d c [] rs apart on = refl
sents_other d c (x ∷ xs) [] apart on = refl
sents_other d c (x ∷ xs) (r ∷ rs) apart on =
    ap (λ (l : List ℕ). l ++ sent_over c xs rs) (sent_other d c x r apart on.0) ∙ sents_other d c xs rs apart on.1

all_drops_other : (d c : ℕ) (xs : List Choice) → d ≢ c → AreOn d xs → list_any (λ x. drops_with x c) xs ≡ false
all_drops_other d c [] apart on = refl
all_drops_other d c (x ∷ xs) apart on =
    ap (λ b. b || list_any (λ y. drops_with y c) xs) (drops_other d c x apart on.0) ∙ all_drops_other d c xs apart on.1

-- ---- the history of a connection

or-false : (b : Bool) → (b || false) ≡ b
or-false true = refl
or-false false = refl

module _ {P : Type 0} (turns : TransitionRelation P) where
  carries_none : (pool c : ℕ) (w : WorldState State P) → Carries turns pool c [] [] false w w
  unfolding stream_over sent_over
  carries_none pool c w = record {
    continues = record { choices = []; replies = []; run = refl; serving = tt };
    comes = refl;
    goes = refl;
    reports = refl;
  }

  carries_then : (pool c : ℕ) (came sent more next : List ℕ) (gone last : Bool) (w mid after : WorldState State P)
      → Carries turns pool c came sent gone w mid
      → Carries turns pool c more next last mid after
      → Carries turns pool c (came ++ more) (sent ++ next) (gone || last) w after
  carries_then pool c came sent more next gone last w mid after a b = record {
    continues = record {
      choices = a.continues.choices ++ b.continues.choices;
      replies = a.continues.replies ++ b.continues.replies;
      run = runs_follow copying turns w mid after a.continues.choices b.continues.choices a.continues.replies
          b.continues.replies a.continues.run b.continues.run;
      serving = serving-append pool a.continues.choices b.continues.choices a.continues.serving b.continues.serving;
    };
    comes = stream_over-append copying turns w mid a.continues.choices b.continues.choices a.continues.replies
        b.continues.replies c a.continues.run
        ∙ (ap (λ (l : List ℕ). l ++ stream_over c b.continues.choices b.continues.replies) a.comes
        ∙ ap (λ (l : List ℕ). came ++ l) b.comes);
    goes = sent_over-append copying turns w mid a.continues.choices b.continues.choices a.continues.replies
        b.continues.replies c a.continues.run
        ∙ (ap (λ (l : List ℕ). l ++ sent_over c b.continues.choices b.continues.replies) a.goes
        ∙ ap (λ (l : List ℕ). sent ++ l) b.goes);
    reports = list_any-append (λ x. drops_with x c) a.continues.choices b.continues.choices
        ∙ (ap (λ (t : Bool). t || list_any (λ x. drops_with x c) b.continues.choices) a.reports
        ∙ ap (λ (t : Bool). gone || t) b.reports);
  }

  pub carries_own : (pool c : ℕ) (came sent : List ℕ) (gone : Bool) (w after : WorldState State P)
      → Proceeds turns c came sent gone w after → Carries turns pool c came sent gone w after
  carries_own pool c came sent gone w after g =
      record {
        continues = record {
          choices = g.choices;
          replies = g.replies;
          run = g.run;
          serving = serving_all pool c g.choices g.alone;
        };
        comes = g.comes;
        goes = g.goes;
        reports = g.reports;
      }

  carries_other : (pool c d : ℕ) (came sent : List ℕ) (gone : Bool) (w after : WorldState State P) → d ≢ c
      → Proceeds turns d came sent gone w after → Carries turns pool c [] [] false w after
  carries_other pool c d came sent gone w after apart g = record {
    continues = record {
      choices = g.choices;
      replies = g.replies;
      run = g.run;
      serving = serving_all pool d g.choices g.alone;
    };
    comes = streams_other d c g.choices g.replies apart g.alone;
    goes = sents_other d c g.choices g.replies apart g.alone;
    reports = all_drops_other d c g.choices apart g.alone;
  }

  pub carries_made : (pool c : ℕ) (r : Reply) (w after : WorldState State P)
      → OutsideStep copying turns w (event.ConnNew pool) r after → Carries turns pool c [] [] false w after
  unfolding stream_over sent_over
  carries_made pool c r w after step =
      record {
        continues = record {
          choices = choice.Outside (event.ConnNew pool) ∷ [];
          replies = r ∷ [];
          run = (after, step, refl);
          serving = (refl, tt);
        };
        comes = refl;
        goes = refl;
        reports = refl;
      }

  visits_then : (pool c : ℕ) (came sent more next : List ℕ) (gone last : Bool) (begun w after : WorldState State P)
      → Visits turns pool c came sent gone begun w
      → Carries turns pool c more next last w after
      → Visits turns pool c (came ++ more) (sent ++ next) (gone || last) begun after
  visits_then pool c came sent more next gone last begun w after v more_of = record {
    before = v.before;
    past = v.past;
    first = v.first;
    made = v.made;
    since = carries_then pool c came sent more next gone last v.first w after v.since more_of;
  }

  -- a step without bytes on it
  visits_still : (pool c : ℕ) (came sent : List ℕ) (gone : Bool) (begun w after : WorldState State P)
      → Visits turns pool c came sent gone begun w
      → Carries turns pool c [] [] false w after → Visits turns pool c came sent gone begun after
  visits_still pool c came sent gone begun w after v more =
      subst (λ (l : List ℕ). Visits turns pool c l sent gone begun after) (append-nil came)
      (subst (λ (l : List ℕ). Visits turns pool c (came ++ []) l gone begun after) (append-nil sent)
      (subst (λ (b : Bool). Visits turns pool c (came ++ []) (sent ++ []) b begun after) (or-false gone)
      (visits_then pool c came sent [] [] gone false begun w after v more)))

  pub visits_continue : VisitsContinue turns
  visits_continue = record {
    new = λ pool c begun w after past made. record {
      before = w;
      past = past;
      first = after;
      made = made;
      since = carries_none pool c after;
    };
    own = λ pool c came sent more next gone last begun w after v g. visits_then pool c came sent more next gone last
        begun w after v (carries_own pool c more next last w after g);
    other = λ pool c d came sent more next gone last begun w after apart v g. visits_still pool c came sent gone begun w
        after v (carries_other pool c d more next last w after apart g);
    made = λ pool c came sent gone r begun w after v step. visits_still pool c came sent gone begun w after v
        (carries_made pool c r w after step);
  }

-- whether a connection exists does not depend on the bytes of files
pub lacks_same : (m : SystemState) (c : ℕ) → lacks_conn (machine_of m) c ≡ lacks_conn (tables_of m.kernel) c
unfolding read_of state_view
lacks_same m c = refl

-- ---- histories in a world over a store, which may be dishonest

module _ {P : Type 0} (turns : TransitionRelation P) (starts : WorldState SystemState P → Type 0) (pool : ℕ) where
  visited_next : (c : ℕ) (came sent more next : List ℕ) (gone last : Bool) (w after : WorldState SystemState P)
      → KeepsHonesty w.machine after.machine
      → ((begun : WorldState State P) → w.machine.disk.honest ≡ true
      → Visits turns pool c came sent gone begun (copied w)
      → Visits turns pool c more next last begun (copied after))
      → HasVisited turns starts pool c came sent gone w → HasVisited turns starts pool c more next last after
  visited_next c came sent more next gone last w after kept goes v = record {
    begun = v.begun;
    started = v.started;
    honest = record { same = kept.same ∙ v.honest.same };
    visits = λ honest. goes (copied v.begun) (v.honest.same ∙ honest) (v.visits honest);
  }

  -- nothing arrives and nothing is sent on any connection
  pub visits_stay : (w after : WorldState SystemState P) → KeepsHonesty w.machine after.machine
      → ((c : ℕ) → IfHonest w.machine.disk (Carries turns pool c [] [] false (copied w) (copied after)))
      → VisitsStay turns starts pool w after
  visits_stay w after kept carries = λ c came sent gone v. visited_next c came sent came sent gone gone w after kept
      (λ begun honest past. visits_still turns pool c came sent gone begun (copied w) (copied after) past
      (carries c honest)) v

  -- the same world, in terms of the copying machine
  pub visits_same : (w after : WorldState SystemState P) → KeepsHonesty w.machine after.machine
      → copied after ≡ copied w
      → VisitsStay turns starts pool w after
  visits_same w after kept same =
      visits_stay w after kept
      (λ c honest. subst (λ (v : WorldState State P). Carries turns pool c [] [] false (copied w) v)
      (sym same) (carries_none turns pool c (copied w)))

  -- turns, and events of d
  pub visits_advance : (d : ℕ) (more next : List ℕ) (last : Bool) (w after : WorldState SystemState P)
      → KeepsHonesty w.machine after.machine
      → IfHonest w.machine.disk (Proceeds turns d more next last (copied w) (copied after))
      → VisitsAdvance turns starts pool d more next last w after
  visits_advance d more next last w after kept goes = record {
    own = λ came sent gone v. visited_next d came sent (came ++ more) (sent ++ next) gone (gone || last) w after kept
        (λ begun honest past. visits_then turns pool d came sent more next gone last begun (copied w) (copied after)
        past (carries_own turns pool d more next last (copied w) (copied after) (goes honest))) v;
    others = λ c came sent gone apart v. visited_next c came sent came sent gone gone w after kept
        (λ begun honest past. visits_still turns pool c came sent gone begun (copied w) (copied after) past
        (carries_other turns pool c d more next last (copied w) (copied after) apart (goes honest))) v;
  }

  -- the first bytes arrive on d
  pub visits_arrive : (d : ℕ) (bytes rest came : List ℕ) (w after : WorldState SystemState P)
      → KeepsHonesty w.machine after.machine
      → bytes ≡ came ++ rest → IfHonest w.machine.disk (Arrives turns d bytes rest (copied w) (copied after))
      → VisitsArrive turns starts pool d bytes rest w after
  visits_arrive d bytes rest came w after kept split arrives = (
    came,
    split,
    visits_advance d came [] false w after kept
        (λ honest. let a = arrives honest in
        subst (λ (l : List ℕ). Proceeds turns d l [] false (copied w) (copied after))
        (append_cancel_right a.came came rest (sym a.split ∙ split)) a.proceeds),
  )

  -- a new connection
  pub visits_begin : (c : ℕ) (w after : WorldState SystemState P) → KeepsHonesty w.machine after.machine
      → IfHonest w.machine.disk (OutsideStep copying turns (copied w) (event.ConnNew pool) (reply.Conn c)
      (copied after))
      → ∥ HasServed turns starts pool w ∥₁ → ∥ HasVisited turns starts pool c [] [] false after ∥₁
  visits_begin c w after kept made served = ∥∥₁_map served (λ (h : HasServed turns starts pool w). record {
    begun = h.begun;
    started = h.started;
    honest = record { same = kept.same ∙ h.honest.same };
    visits = λ honest. (visits_continue turns).new pool c (copied h.begun) (copied w) (copied after)
        (h.continues honest) (made (h.honest.same ∙ honest));
  })
