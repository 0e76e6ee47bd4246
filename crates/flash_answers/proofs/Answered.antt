-- The answers to the clients of an event loop, by their histories.
use Rattle.std.proofs.Common.{◌≡◌, ◌∙◌, ℕ, Bool, true, false, inl, inr, List, [], ◌∷◌, Option, None, Some, sym}
use Rattle.std.proofs.Common.{ap, subst}
use Rattle.std.proofs.Math.Logic.{∥∥₁_elim, ∥∥₁_prop}
use Rattle.std.specs.List.{AllByRecursion}
use Rattle.std.specs.Option.{IfSome}
use Rattle.iol_proc.specs.World.{WorldState}
use Rattle.iol_system.specs.Machine.{SystemState}
use Rattle.iol_reactor.specs.Clients.{AreWhole, Holds, IsClosed, IsDone, IsLeft, Request, Visit, WereLeft}
use Rattle.iol_reactor.specs.Served.{HasHistory, HasKnownHistory, IsLast, IsServed, IsServedWhole}
use Rattle.iol_reactor.specs.Visits.{HasVisited}
use Rattle.iol_reactor.specs.declared.client.Client.{Client}
use Rattle.iol_reactor.specs.declared.service.Frame.{Frame}
use Rattle.iol_reactor.specs.declared.service.Frame.TheVariants.{Complete, Incomplete, Last}
use Rattle.flash_cgi.specs.declared.worker.Worker.{Worker}
use Rattle.flash_framing.specs.Framing.{Framed}
use Rattle.flash_laws.specs.Serves.Rounds.{in_rounds}
use Rattle.flash_laws.specs.Site.{net_pool}
use Rattle.flash_laws.specs.World.Consistency.{Actor, actor_turns}
use Rattle.flash_lite.specs.Workers.{worker_turns}
use Rattle.flash_clients.specs.Clients.{ClientsGetAnswers}
use Rattle.flash_clients.specs.Requests.{RequestsAreKept}
use Rattle.flash_answers.specs.Answered.{HasAnswers, IsAnsweredClient, ServesSites}
use Rattle.flash_answers.specs.Clients.{ClientsAreAnswered, IsAnswered, IsBegun, IsHonest, LeftSites}
use Rattle.flash_answers.specs.Sites.{SitesAnswer}
use Rattle.flash_answers.proofs.Clients.{clients_answered}

value_of : List ℕ → Option (List ℕ) → List ℕ
value_of d None = d
value_of d (Some x) = x

some_same : (known : Option (List ℕ)) (a b : List ℕ) → known ≡ Some a → known ≡ Some b → a ≡ b
unfolding value_of
some_same known a b first second = ap (λ o. value_of a o) (sym first ∙ second)

module _ (starts : WorldState SystemState (Actor Worker) → Type 0) (frames : List ℕ → Frame
    → Type 0) (s : ServesSites starts frames) where
  visited_honest : (c : ℕ) (came sent : List ℕ) (gone : Bool) (w : WorldState SystemState (Actor Worker))
      → HasVisited (actor_turns in_rounds worker_turns) starts net_pool c came sent gone w
      → w.machine.disk.honest ≡ true
  visited_honest c came sent gone w h = h.honest.same ∙ s.honest h.begun h.started

  framed_all : (rs : List Request) → AllByRecursion (λ r. frames r.waiting (Complete r.size)) rs
      → AllByRecursion (λ r. Framed r.waiting (Complete r.size)) rs
  framed_all [] all = tt
  framed_all (r ∷ rs) all = (s.framed r.waiting (Complete r.size) all.0, framed_all rs all.1)

  whole_sites : (came : List ℕ) → AreWhole (actor_turns in_rounds worker_turns) starts frames net_pool came
      → AreWhole (actor_turns in_rounds worker_turns) starts Framed net_pool came
  whole_sites came w = record { requests = w.requests; kept = framed_all w.requests w.kept; are = w.are }

  done_sites : (v : Visit (Actor Worker)) → IsDone (actor_turns in_rounds worker_turns) starts frames net_pool v
      → IsDone (actor_turns in_rounds worker_turns) starts Framed net_pool v
  done_sites v d = record { visited = d.visited; over = d.over }

  left_sites : (v : Visit (Actor Worker)) → IsLeft (actor_turns in_rounds worker_turns) starts frames net_pool v
      → IsLeft (actor_turns in_rounds worker_turns) starts Framed net_pool v
  left_sites v l = record { done = done_sites v l.done; whole = whole_sites v.came l.whole }

  left_all : (vs : List (Visit (Actor Worker)))
      → AllByRecursion (IsLeft (actor_turns in_rounds worker_turns) starts frames net_pool) vs
      → AllByRecursion (IsLeft (actor_turns in_rounds worker_turns) starts Framed net_pool) vs
  left_all [] all = tt
  left_all (v ∷ vs) all = (left_sites v all.0, left_all vs all.1)

  honest_all : (vs : List (Visit (Actor Worker)))
      → AllByRecursion (IsLeft (actor_turns in_rounds worker_turns) starts frames net_pool) vs
      → AllByRecursion IsHonest vs
  honest_all [] all = tt
  honest_all (v ∷ vs) all = (visited_honest v.conn v.came v.sent false v.world all.0.done.visited, honest_all vs all.1)

  sites_left : (pc ps : List ℕ) → WereLeft (actor_turns in_rounds worker_turns) starts frames net_pool pc ps
      → LeftSites starts pc ps
  sites_left pc ps w = record {
    were = record { visits = w.visits; left = left_all w.visits w.left; comes = w.comes; goes = w.goes };
    honest = honest_all w.visits w.left;
  }

  closed_sites : (v : Visit (Actor Worker)) → IsClosed (actor_turns in_rounds worker_turns) starts frames net_pool v
      → IsClosed (actor_turns in_rounds worker_turns) starts Framed net_pool v
  closed_sites v d = record {
    done = done_sites v d.done;
    before = d.before;
    whole = whole_sites d.before d.whole;
    request = d.request;
    framed = s.framed d.request.waiting (Last d.request.size) d.framed;
    all = d.all;
  }

  module _ (law : ClientsAreAnswered starts) where
    served_begins : (lost from to : List ℕ)
        → IsServed (actor_turns in_rounds worker_turns) starts frames net_pool lost from to
        → ∥ IsBegun starts from to ∥₁
    served_begins lost from to h = begins h.visit h.last
      where
        begins : (v : Option (Visit (Actor Worker)))
            → IsLast (actor_turns in_rounds worker_turns) starts frames net_pool v h.came h.sent
            → ∥ IsBegun starts from to ∥₁
        begins None last =
            law.apart h.past_came h.past_sent h.waiting lost from to (sites_left h.past_came h.past_sent h.were)
            (subst (λ (k : List ℕ). Holds h.past_came h.past_sent k [] h.waiting lost from to) last.0
            (subst (λ (k : List ℕ). Holds h.past_came h.past_sent h.came k h.waiting lost from to) last.1 h.holds))
        begins (Some v) last =
            law.begins h.past_came h.past_sent v false h.waiting lost from to
            (sites_left h.past_came h.past_sent h.were)
            (visited_honest v.conn v.came v.sent false v.world last.2)
            last.2
            (subst (λ (k : List ℕ). Holds h.past_came h.past_sent k v.sent h.waiting lost from to) last.0
            (subst (λ (k : List ℕ). Holds h.past_came h.past_sent h.came k h.waiting lost from to) last.1 h.holds))

    served_whole : (is_ended : Bool) (from to : List ℕ)
        → IsServedWhole (actor_turns in_rounds worker_turns) starts frames net_pool is_ended [] from to
        → ∥ IsAnswered starts from to ∥₁
    served_whole is_ended from to (inl h) =
        law.closed h.past_came h.past_sent h.visit h.waiting from to (sites_left h.past_came h.past_sent h.were)
        (visited_honest h.visit.conn h.visit.came h.visit.sent false h.visit.world h.closed.done.visited)
        (closed_sites h.visit h.closed) h.holds
    served_whole is_ended from to (inr h) =
        law.ended h.past_came h.past_sent h.waiting from to (sites_left h.past_came h.past_sent h.were)
        (s.framed h.waiting Incomplete h.none) h.holds

    history_answers : {S : Type 0} (supplied accepted : S → Option (List ℕ)) (c : Client S)
        → ∥ HasHistory (actor_turns in_rounds worker_turns) starts frames net_pool supplied accepted c ∥₁
        → HasAnswers starts supplied accepted c
    history_answers supplied accepted c known = record {
      begins = λ from to supplies accepts. ∥∥₁_elim known ∥∥₁_prop (λ h.
          subst (λ (k : List ℕ). ∥ IsBegun starts k to ∥₁)
          (some_same (supplied c.socket) h.from from h.supplies supplies)
          (subst (λ (k : List ℕ). ∥ IsBegun starts h.from k ∥₁)
          (some_same (accepted c.socket) h.to to h.accepts accepts)
          (served_begins h.unsent h.from h.to h.served)));
      whole = λ from to supplies accepts closing whole. ∥∥₁_elim known ∥∥₁_prop (λ h.
          subst (λ (k : List ℕ). ∥ IsAnswered starts k to ∥₁)
          (some_same (supplied c.socket) h.from from h.supplies supplies)
          (subst (λ (k : List ℕ). ∥ IsAnswered starts h.from k ∥₁)
          (some_same (accepted c.socket) h.to to h.accepts accepts)
          (served_whole c.input.ended h.from h.to (h.whole closing whole))));
    }

client_answered : SitesAnswer → RequestsAreKept → ClientsGetAnswers
    → {S : Type 0} (supplied accepted : S → Option (List ℕ)) (starts : WorldState SystemState (Actor Worker)
    → Type 0) (frames : List ℕ → Frame → Type 0) → ServesSites starts frames → (pool : ℕ) → pool ≡ net_pool
    → (c : Client S)
    → HasKnownHistory (actor_turns in_rounds worker_turns) starts frames pool supplied accepted c
    → IsAnsweredClient starts supplied accepted c
client_answered sites kept clients supplied accepted starts frames serves pool net c history = λ known.
    history_answers starts frames serves (clients_answered starts serves.begins sites kept clients) supplied accepted c
    (subst (λ (k : ℕ). ∥ HasHistory (actor_turns in_rounds worker_turns) starts frames k supplied accepted c ∥₁) net
    (history known))

-- the same for a client that was found
pub found_answered : SitesAnswer → RequestsAreKept → ClientsGetAnswers
    → {R S : Type 0} (supplied accepted : S → Option (List ℕ)) (starts : WorldState SystemState (Actor Worker)
    → Type 0) (frames : List ℕ → Frame → Type 0) → ServesSites starts frames → (pool : ℕ) → pool ≡ net_pool
    → (now : R → Client S) (found : Option R)
    → IfSome found (λ k. HasKnownHistory (actor_turns in_rounds worker_turns) starts frames pool supplied accepted
    (now k))
    → IfSome found (λ k. IsAnsweredClient starts supplied accepted (now k))
found_answered sites kept clients supplied accepted starts frames serves pool net now None known = tt
found_answered sites kept clients supplied accepted starts frames serves pool net now (Some k) known =
    client_answered sites kept clients supplied accepted starts frames serves pool net (now k) known
