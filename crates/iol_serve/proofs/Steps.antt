-- Serving a connection, step by step.
use Rattle.std.proofs.Common.{◌≡◌, ◌∙◌, ℕ, suc, zero, Bool, true, false, ◌||◌, List, [], ◌∷◌, ◌++◌, Option, None, Some}
use Rattle.std.proofs.Common.{refl, sym, ap, subst, length, take, arith, append_assoc, append-nil, ◌==◌, if◌then◌else◌}
use Rattle.std.proofs.lemmas.Bool.Decides.{nat_tests}
use Rattle.std.proofs.lemmas.List.Folds.{list_any-append}
use Rattle.std.specs.List.{list_any}
use Rattle.std.specs.Io.KnownBytes.{Appends, Consumes, Keeps}
use Rattle.iol_core.specs.State.{State}
use Rattle.iol_core.specs.Calls.Outside.{transmit}
use Rattle.iol_core.specs.declared.descriptors.How.TheVariants.{Done, Gone}
use Rattle.iol_core.specs.declared.events.Event.{Event}
use Rattle.iol_core.specs.declared.events.Event.TheVariants as event
use Rattle.iol_core.specs.declared.events.Reply.{Reply}
use Rattle.iol_core.specs.declared.events.Reply.TheVariants as reply
use Rattle.iol_laws.specs.History.{came_by, sent_by, drops_unsent}
use Rattle.iol_proc.specs.Streams.{ArrivesAs, SendsAs}
use Rattle.iol_proc.specs.Histories.{stream_over, sent_over, drops_with}
use Rattle.iol_proc.specs.Idle.{rounds}
use Rattle.iol_proc.specs.Turns.{TransitionRelation}
use Rattle.iol_proc.specs.World.{WorldState, copying, OutsideStep, WorldRun}
use Rattle.iol_proc.specs.declared.choice.Choice.{Choice}
use Rattle.iol_proc.specs.declared.choice.Choice.TheVariants as choice
use Rattle.iol_proc.proofs.Streams.{runs_follow, stream_over-append, sent_over-append}
use Rattle.iol_system.specs.Prelude.{TakesIn}
use Rattle.iol_serve.specs.Service.{IsOn, AreOn, Proceeds, Sends, Serves}

-- Known bytes.

pub appends_none : (held : Option (List ℕ)) → Appends held held []
appends_none None = tt
appends_none (Some xs) = sym (append-nil xs)

pub appends_kept : (held now : Option (List ℕ)) → Keeps held now → Appends held now []
appends_kept None now keeps = tt
appends_kept (Some xs) (Some ys) keeps = keeps ∙ sym (append-nil xs)
appends_kept (Some xs) None keeps = absurd keeps

pub appends_then : (a b d : Option (List ℕ)) (xs ys : List ℕ) → Appends a b xs → Appends b d ys → Appends a d (xs ++ ys)
appends_then None b d xs ys first next = tt
appends_then (Some k) (Some l) (Some m) xs ys first next =
    next ∙ (ap (λ (w : List ℕ). w ++ ys) first ∙ append_assoc k xs ys)
appends_then (Some k) None d xs ys first next = absurd first
appends_then (Some k) (Some l) None xs ys first next = absurd next

pub consumes_none : (left : Option (List ℕ)) → Consumes left left []
consumes_none None = tt
consumes_none (Some xs) = refl

pub consumes_then : (a b d : Option (List ℕ)) (xs ys : List ℕ) → Consumes a b xs → Consumes b d ys
    → Consumes a d (xs ++ ys)
consumes_then None b d xs ys first next = tt
consumes_then (Some k) (Some l) (Some m) xs ys first next =
    first ∙ (ap (λ (w : List ℕ). xs ++ w) next ∙ sym (append_assoc xs ys m))
consumes_then (Some k) None d xs ys first next = absurd first
consumes_then (Some k) (Some l) None xs ys first next = absurd next

-- Choices.

alone-append : (c : ℕ) (xs ys : List Choice) → AreOn c xs → AreOn c ys → AreOn c (xs ++ ys)
alone-append c [] ys first next = next
alone-append c (x ∷ xs) ys first next = (first.0, alone-append c xs ys first.1 next)

alone_turns : (c : ℕ) (ds : List ℕ) (i n : ℕ) → AreOn c (rounds ds i n)
alone_turns c ds i zero = tt
alone_turns c ds i (suc n) = (tt, alone_turns c ds (suc i) n)

stream_turns : (c : ℕ) (ds : List ℕ) (i n : ℕ) (rs : List Reply) → stream_over c (rounds ds i n) rs ≡ []
unfolding stream_over
stream_turns c ds i zero rs = refl
stream_turns c ds i (suc n) [] = refl
stream_turns c ds i (suc n) (r ∷ rs) = stream_turns c ds (suc i) n rs

sent_turns : (c : ℕ) (ds : List ℕ) (i n : ℕ) (rs : List Reply) → sent_over c (rounds ds i n) rs ≡ []
unfolding sent_over
sent_turns c ds i zero rs = refl
sent_turns c ds i (suc n) [] = refl
sent_turns c ds i (suc n) (r ∷ rs) = sent_turns c ds (suc i) n rs

drops_turns : (c : ℕ) (ds : List ℕ) (i n : ℕ) → list_any (λ x. drops_with x c) (rounds ds i n) ≡ false
drops_turns c ds i zero = refl
drops_turns c ds i (suc n) = drops_turns c ds (suc i) n

or-false : (b : Bool) → (b || false) ≡ b
or-false true = refl
or-false false = refl

same_number : (c : ℕ) → (c == c) ≡ true
same_number c = grind (arith, nat_tests)

-- its own number
own : (c : ℕ) (xs : List ℕ) → (if c == c then xs else []) ≡ xs
own c xs = grind (arith, nat_tests)

take_all : (n : ℕ) (xs : List ℕ) → length xs ≡ n → take n xs ≡ xs
take_all zero [] e = refl
take_all zero (x ∷ xs) e = absurd (omega (arith, e))
take_all (suc n) [] e = refl
take_all (suc n) (x ∷ xs) e = ap (λ (w : List ℕ). x ∷ w) (take_all n xs (omega (arith, e)))

module _ {P : Type 0} (turns : TransitionRelation P) where
  pub goes_none : (c : ℕ) (w after : WorldState State P) → after ≡ w → Proceeds turns c [] [] false w after
  unfolding stream_over sent_over
  goes_none c w after same = record {
    choices = [];
    replies = [];
    run = same;
    alone = tt;
    comes = refl;
    goes = refl;
    reports = refl;
  }

  pub goes_then : (c : ℕ) (came sent more rest : List ℕ) (gone last : Bool) (w mid after : WorldState State P)
      → Proceeds turns c came sent gone w mid → Proceeds turns c more rest last mid after
      → Proceeds turns c (came ++ more) (sent ++ rest) (gone || last) w after
  goes_then c came sent more rest gone last w mid after a b = record {
    choices = a.choices ++ b.choices;
    replies = a.replies ++ b.replies;
    run = runs_follow copying turns w mid after a.choices b.choices a.replies b.replies a.run b.run;
    alone = alone-append c a.choices b.choices a.alone b.alone;
    comes = stream_over-append copying turns w mid a.choices b.choices a.replies b.replies c a.run
        ∙ (ap (λ (l : List ℕ). l ++ stream_over c b.choices b.replies) a.comes
        ∙ ap (λ (l : List ℕ). came ++ l) b.comes);
    goes = sent_over-append copying turns w mid a.choices b.choices a.replies b.replies c a.run
        ∙ (ap (λ (l : List ℕ). l ++ sent_over c b.choices b.replies) a.goes ∙ ap (λ (l : List ℕ). sent ++ l) b.goes);
    reports = list_any-append (λ x. drops_with x c) a.choices b.choices
        ∙ (ap (λ (t : Bool). t || list_any (λ x. drops_with x c) b.choices) a.reports
        ∙ ap (λ (t : Bool). gone || t) b.reports);
  }

  pub goes_turns : (c i n : ℕ) (ds : List ℕ) (rs : List Reply) (w after : WorldState State P)
      → WorldRun copying turns w (rounds ds i n) rs after → Proceeds turns c [] [] false w after
  goes_turns c i n ds rs w after ran = record {
    choices = rounds ds i n;
    replies = rs;
    run = ran;
    alone = alone_turns c ds i n;
    comes = stream_turns c ds i n rs;
    goes = sent_turns c ds i n rs;
    reports = drops_turns c ds i n;
  }

  -- one external event
  goes_outside : (c : ℕ) (e : Event) (r : Reply) (came sent : List ℕ) (gone : Bool) (w after : WorldState State P)
      → OutsideStep copying turns w e r after → IsOn c (choice.Outside e) → came_by c e r ≡ came → sent_by c e r ≡ sent
      → drops_unsent e c ≡ gone → Proceeds turns c came sent gone w after
  unfolding stream_over sent_over
  goes_outside c e r came sent gone w after step on comes goes reports = record {
    choices = choice.Outside e ∷ [];
    replies = r ∷ [];
    run = (after, step, refl);
    alone = (on, tt);
    comes = append-nil (came_by c e r) ∙ comes;
    goes = append-nil (sent_by c e r) ∙ goes;
    reports = or-false (drops_unsent e c) ∙ reports;
  }

  pub goes_closed : (c : ℕ) (r : Reply) (w after : WorldState State P)
      → OutsideStep copying turns w (event.PeerClosed c Done) r after → Proceeds turns c [] [] false w after
  goes_closed c r w after step = goes_outside c (event.PeerClosed c Done) r [] [] false w after step refl refl refl refl

  pub goes_hung_up : (c : ℕ) (r : Reply) (w after : WorldState State P)
      → OutsideStep copying turns w (event.PeerClosed c Gone) r after → Proceeds turns c [] [] true w after
  goes_hung_up c r w after step =
      goes_outside c (event.PeerClosed c Gone) r [] [] true w after step refl refl refl (same_number c)

  pub goes_arrived : (c n : ℕ) (bytes : List ℕ) (w after : WorldState State P) → length bytes ≡ n
      → ArrivesAs turns c n bytes w after → Proceeds turns c bytes [] false w after
  goes_arrived c n bytes w after count step =
      goes_outside c (event.Arrive c bytes) (reply.Count n) bytes [] false w after step refl (own c (take n bytes)
      ∙ take_all n bytes count) refl refl

  pub goes_sent : (c n : ℕ) (bytes : List ℕ) (w after : WorldState State P) → SendsAs turns c n w after
      → (transmit w.machine c n).answer.0 ≡ bytes → (n ≡ 0 → bytes ≡ []) → Proceeds turns c [] bytes false w after
  goes_sent c zero bytes w after step is none =
      subst (λ (l : List ℕ). Proceeds turns c [] l false w after) (sym (none refl)) (goes_none c w after step)
  goes_sent c (suc n) bytes w after step is none =
      let sent = (transmit w.machine c (suc n)).answer in
      goes_outside c (event.Transmit c (suc n)) (reply.Segment sent.0 sent.1) [] bytes false w after step refl refl
      (own c sent.0 ∙ is) refl

  -- ---- bytes sent, and bytes served

  pub sends_none : (c : ℕ) (held now : Option (List ℕ)) (w after : WorldState State P) → Appends held now [] → after ≡ w
      → Sends turns c held now w after
  sends_none c held now w after kept same = record { sent = []; taken = kept; proceeds = goes_none c w after same }

  pub sends_then : (c : ℕ) (a b d : Option (List ℕ)) (w mid after : WorldState State P) → Sends turns c a b w mid
      → Sends turns c b d mid after → Sends turns c a d w after
  sends_then c a b d w mid after first next = record {
    sent = first.sent ++ next.sent;
    taken = appends_then a b d first.sent next.sent first.taken next.taken;
    proceeds = goes_then c [] first.sent [] next.sent false false w mid after first.proceeds next.proceeds;
  }

  pub serves_none : (c : ℕ) (left held now : Option (List ℕ)) (w : WorldState State P) → Appends held now []
      → Serves turns c false left left held now w w
  serves_none c left held now w kept =
      record { came = []; sent = []; given = consumes_none left; taken = kept; proceeds = goes_none c w w refl }

  pub serves_sent : (c : ℕ) (left held now : Option (List ℕ)) (w after : WorldState State P)
      → Sends turns c held now w after
      → Serves turns c false left left held now w after
  serves_sent c left held now w after s =
      record { came = []; sent = s.sent; given = consumes_none left; taken = s.taken; proceeds = s.proceeds }

  pub serves_alone : (c : ℕ) (gone : Bool) (left held : Option (List ℕ)) (w after : WorldState State P)
      → Proceeds turns c [] [] gone w after → Serves turns c gone left left held held w after
  serves_alone c gone left held w after g =
      record { came = []; sent = []; given = consumes_none left; taken = appends_none held; proceeds = g }

  pub serves_then : (c : ℕ) (gone last : Bool) (l m r h i k : Option (List ℕ)) (w mid after : WorldState State P)
      → Serves turns c gone l m h i w mid → Serves turns c last m r i k mid after
      → Serves turns c (gone || last) l r h k w after
  serves_then c gone last l m r h i k w mid after first next = record {
    came = first.came ++ next.came;
    sent = first.sent ++ next.sent;
    given = consumes_then l m r first.came next.came first.given next.given;
    taken = appends_then h i k first.sent next.sent first.taken next.taken;
    proceeds = goes_then c first.came first.sent next.came next.sent gone last w mid after first.proceeds next.proceeds;
  }

  pub serves_came : (c n : ℕ) (left rest held now : Option (List ℕ)) (w after : WorldState State P)
      → Appends held now []
      → TakesIn left rest n (λ bytes. ArrivesAs turns c n bytes w after)
      → Serves turns c false left rest held now w after
  serves_came c n left rest held now w after kept t =
      record {
        came = t.bytes;
        sent = [];
        given = t.given;
        taken = kept;
        proceeds = goes_arrived c n t.bytes w after t.count t.arrives;
      }

  pub serves_refused : (c : ℕ) (left rest held now : Option (List ℕ)) (w after : WorldState State P) → rest ≡ left
      → Appends held now [] → after ≡ w → Serves turns c false left rest held now w after
  serves_refused c left rest held now w after still kept same = record {
    came = [];
    sent = [];
    given = subst (λ (r : Option (List ℕ)). Consumes left r []) (sym still) (consumes_none left);
    taken = kept;
    proceeds = goes_none c w after same;
  }

  pub goes_as : (c : ℕ) (gone is : Bool) (w after : WorldState State P) → gone ≡ is
      → Proceeds turns c [] [] gone w after
      → Proceeds turns c [] [] is w after
  goes_as c gone is w after same g = subst (λ (b : Bool). Proceeds turns c [] [] b w after) same g

  -- with another expression for whether the peer was reported gone
  pub serves_as : (c : ℕ) (gone is : Bool) (l r h k : Option (List ℕ)) (w after : WorldState State P) → gone ≡ is
      → Serves turns c gone l r h k w after → Serves turns c is l r h k w after
  serves_as c gone is l r h k w after same s = subst (λ (b : Bool). Serves turns c b l r h k w after) same s

  -- the same, if the writer then takes no more bytes
  pub serves_kept : (c : ℕ) (gone : Bool) (l r h i k : Option (List ℕ)) (w after : WorldState State P) → Appends i k []
      → Serves turns c gone l r h i w after → Serves turns c gone l r h k w after
  serves_kept c gone l r h i k w after kept s = record {
    came = s.came;
    sent = s.sent;
    given = s.given;
    taken = subst (λ (xs : List ℕ). Appends h k xs) (append-nil s.sent) (appends_then h i k s.sent [] s.taken kept);
    proceeds = s.proceeds;
  }
