-- The connections of a client of the event loop have their answers, and so has the client.
use Rattle.std.proofs.Common.{◌≡◌, ◌∙◌, inl, inr, ℕ, Bool, false, List, [], ◌∷◌, ◌++◌, map, refl, sym, ap, subst}
use Rattle.std.proofs.Common.{append_assoc, append-nil}
use Rattle.std.proofs.Math.Logic.{∥∥₁_map, ∥∥₁_map₂}
use Rattle.std.specs.List.{AllByRecursion, concat}
use Rattle.iol_proc.specs.World.{WorldState}
use Rattle.iol_system.specs.Machine.{SystemState}
use Rattle.iol_reactor.specs.Clients.{AreWhole, Holds, IsClosed, IsLeft, Request, Visit, WereLeft, bytes_of}
use Rattle.iol_reactor.specs.Clients.{bytes_of_all}
use Rattle.iol_reactor.specs.Visits.{HasVisited}
use Rattle.iol_reactor.specs.declared.service.Frame.TheVariants.{Complete, Incomplete}
use Rattle.flash_cgi.specs.declared.worker.Worker.{Worker}
use Rattle.flash_clients.specs.Clients as client
use Rattle.flash_clients.specs.Clients.{AreVisits, ClientsGetAnswers, EndsWell, IsServed}
use Rattle.flash_clients.specs.Requests.{AreKept, Closes, RequestsAreKept}
use Rattle.flash_framing.specs.Framing.{Framed}
use Rattle.flash_http.specs.Window.{window_in}
use Rattle.flash_http.specs.declared.windows.Window.TheVariants.{Wait}
use Rattle.flash_laws.specs.Serves.Rounds.{in_rounds}
use Rattle.flash_laws.specs.SiteContents.{Begins, IsAnswer, SiteContents}
use Rattle.flash_laws.specs.Site.{net_pool}
use Rattle.flash_laws.specs.World.Consistency.{Actor, actor_turns}
use Rattle.flash_lite.specs.Workers.{worker_turns}
use Rattle.flash_site.specs.World.{BeginsSite, IsSiteWorld}
use Rattle.flash_answers.specs.Clients.{ClientsAreAnswered, IsAnswered, IsBegun, IsHonest, IsOfSite, LeftSites}
use Rattle.flash_answers.specs.Sites.{IsAnsweredBySite, SitesAnswer, site_of}

-- ---- lists

joined : {X : Type 0} (f : X → List ℕ) (xs : List X) (x : X) → concat (map f (xs ++ x ∷ [])) ≡ concat (map f xs) ++ f x
joined f [] x = append-nil (f x)
joined f (y ∷ ys) x = ap (λ (l : List ℕ). f y ++ l) (joined f ys x) ∙ sym (append_assoc (f y) (concat (map f ys)) (f x))

module _ (starts : WorldState SystemState (Actor Worker) → Type 0) where
  -- ---- connections in the form of the law of clients

  -- a connection with its answer, by the contents of a site
  pub record IsGood (v : client.Visit) : Type 0 where
    pub site : IsOfSite starts v.site_contents
    pub left : client.IsLeft v
    pub begins : Begins v.site_contents v.came v.sent

  good_visits : (vs : List client.Visit) → AllByRecursion IsGood vs → AreVisits vs
  good_visits [] good = tt
  good_visits (v ∷ []) good = good.0.begins
  good_visits (v ∷ w ∷ vs) good = (good.0.left, good_visits (w ∷ vs) good.1)

  visits_last : (vs : List client.Visit) (last : client.Visit) → AllByRecursion IsGood vs
      → Begins last.site_contents last.came last.sent → AreVisits (vs ++ last ∷ [])
  visits_last [] last good begins = begins
  visits_last (v ∷ []) last good begins = (good.0.left, begins)
  visits_last (v ∷ w ∷ vs) last good begins = (good.0.left, visits_last (w ∷ vs) last good.1 begins)

  ends_left : (waiting : List ℕ) (vs : List client.Visit) → AllByRecursion IsGood vs → window_in waiting ≡ Wait
      → EndsWell waiting vs
  ends_left waiting [] good wait = wait
  ends_left waiting (v ∷ []) good wait = inl (good.0.left, wait)
  ends_left waiting (v ∷ w ∷ vs) good wait = ends_left waiting (w ∷ vs) good.1 wait

  ends_closed : (waiting : List ℕ) (vs : List client.Visit) (last : client.Visit) → client.IsClosed last
      → EndsWell waiting (vs ++ last ∷ [])
  ends_closed waiting [] last closed = inr closed
  ends_closed waiting (v ∷ []) last closed = inr closed
  ends_closed waiting (v ∷ w ∷ vs) last closed = ends_closed waiting (w ∷ vs) last closed

  sites_of : (vs : List client.Visit) → AllByRecursion IsGood vs
      → AllByRecursion (IsOfSite starts) (map (λ v. v.site_contents) vs)
  sites_of [] good = tt
  sites_of (v ∷ vs) good = (good.0.site, sites_of vs good.1)

  sites_last : (vs : List client.Visit) (last : client.Visit) → AllByRecursion IsGood vs
      → IsOfSite starts last.site_contents
      → AllByRecursion (IsOfSite starts) (map (λ v. v.site_contents) (vs ++ last ∷ []))
  sites_last [] last good site = (site, tt)
  sites_last (v ∷ vs) last good site = (good.0.site, sites_last vs last good.1 site)

  -- ---- the requests of a connection

  kept_from : RequestsAreKept → (came : List ℕ) (rs : List Request) → AreKept came
      → AllByRecursion (λ r. Framed r.waiting (Complete r.size)) rs → AreKept (came ++ bytes_of_all rs)
  kept_from kept came [] are all = subst AreKept (sym (append-nil came)) are
  kept_from kept came (r ∷ rs) are all =
      subst AreKept (append_assoc came (bytes_of r) (bytes_of_all rs))
      (kept_from kept (came ++ bytes_of r) rs (kept.keep came r.waiting r.size all.0.0 are all.0.1 all.0.2) all.1)

  whole_kept : RequestsAreKept → (came : List ℕ)
      → AreWhole (actor_turns in_rounds worker_turns) starts Framed net_pool came → AreKept came
  whole_kept kept came whole = subst AreKept (sym whole.are) (kept_from kept [] whole.requests kept.none whole.kept)

  -- ---- the connections of a client, with their sites

  abbrev as_visit : SiteContents → Visit (Actor Worker) → client.Visit
  as_visit site_contents v = record { site_contents = site_contents; came = v.came; sent = v.sent }

  pub record ClientVisits (vs : List (Visit (Actor Worker))) : Type 0 where
    pub them : List client.Visit
    pub good : AllByRecursion IsGood them
    pub comes : concat (map (λ v. v.came) them) ≡ concat (map (λ v. v.came) vs)
    pub goes : concat (map (λ v. v.sent) them) ≡ concat (map (λ v. v.sent) vs)

  -- the bytes of the connections that were left, followed by those of one more
  abbrev served_last : (pc ps waiting unsent supplied accepted : List ℕ)
      (were : WereLeft (actor_turns in_rounds worker_turns) starts Framed net_pool pc ps)
      (t : ClientVisits were.visits) (last : client.Visit)
      → Begins last.site_contents last.came last.sent → Holds pc ps last.came last.sent waiting unsent supplied accepted
      → IsServed (t.them ++ last ∷ []) supplied accepted
  served_last pc ps waiting unsent supplied accepted were t last begins holds = record {
    visits = visits_last t.them last t.good begins;
    waiting = waiting;
    received = holds.received ∙ (sym (append_assoc pc last.came waiting)
        ∙ ap (λ (l : List ℕ). l ++ waiting) (ap (λ (l : List ℕ). l ++ last.came) (were.comes ∙ sym t.comes)
        ∙ sym (joined (λ (v : client.Visit). v.came) t.them last)));
    unsent = unsent;
    produced = joined (λ (v : client.Visit). v.sent) t.them last
        ∙ (ap (λ (l : List ℕ). l ++ last.sent) (t.goes ∙ sym were.goes) ∙ holds.produced);
  }

  abbrev served_left : (pc ps waiting unsent supplied accepted : List ℕ)
      (were : WereLeft (actor_turns in_rounds worker_turns) starts Framed net_pool pc ps)
      (t : ClientVisits were.visits)
      → Holds pc ps [] [] waiting unsent supplied accepted → IsServed t.them supplied accepted
  served_left pc ps waiting unsent supplied accepted were t holds = record {
    visits = good_visits t.them t.good;
    waiting = waiting;
    received = holds.received ∙ ap (λ (l : List ℕ). l ++ waiting) (were.comes ∙ sym t.comes);
    unsent = unsent;
    produced = (t.goes ∙ sym were.goes) ∙ (sym (append-nil ps) ∙ holds.produced);
  }

  module _ (are : (world : WorldState SystemState (Actor Worker)) → starts world → BeginsSite world)
      (sites : SitesAnswer) (kept : RequestsAreKept) (clients : ClientsGetAnswers) where
    -- the same connection, in the world of a site
    abbrev of_site : (c : ℕ) (came sent : List ℕ) (gone : Bool) (w : WorldState SystemState (Actor Worker))
        → HasVisited (actor_turns in_rounds worker_turns) starts net_pool c came sent gone w
        → HasVisited (actor_turns in_rounds worker_turns) BeginsSite net_pool c came sent gone w
    of_site c came sent gone w h =
        record { begun = h.begun; started = are h.begun h.started; honest = h.honest; visits = h.visits }

    good_of : (v : Visit (Actor Worker)) (d : IsLeft (actor_turns in_rounds worker_turns) starts Framed net_pool v)
        → IsHonest v → (is : IsSiteWorld d.done.visited.begun)
        → IsGood (as_visit (site_of d.done.visited.begun is) v)
    good_of v d honest is = record {
      site = record { world = d.done.visited.begun; started = d.done.visited.started; is = is; same = refl };
      left = record { kept = whole_kept kept v.came d.whole; answered = a.whole refl d.done.over };
      begins = a.begins;
    }
      where
        a : IsAnsweredBySite v.conn v.came v.sent false v.world
            (of_site v.conn v.came v.sent false v.world d.done.visited) is
        a = sites v.conn v.came v.sent false v.world (of_site v.conn v.came v.sent false v.world d.done.visited) is
            (sym d.done.visited.honest.same ∙ honest)

    client_visits : (vs : List (Visit (Actor Worker)))
        → AllByRecursion (IsLeft (actor_turns in_rounds worker_turns) starts Framed net_pool) vs
        → AllByRecursion IsHonest vs → ∥ ClientVisits vs ∥₁
    client_visits [] left honest = ∣ record { them = []; good = tt; comes = refl; goes = refl } ∣₁
    client_visits (v ∷ vs) left honest =
        ∥∥₁_map₂ (are left.0.done.visited.begun left.0.done.visited.started) (client_visits vs left.1 honest.1)
        (λ (is : IsSiteWorld left.0.done.visited.begun) (t : ClientVisits vs). record {
          them = as_visit (site_of left.0.done.visited.begun is) v ∷ t.them;
          good = (good_of v left.0 honest.0 is, t.good);
          comes = ap (λ (l : List ℕ). v.came ++ l) t.comes;
          goes = ap (λ (l : List ℕ). v.sent ++ l) t.goes;
        })

    begun_last : (pc ps : List ℕ) (v : Visit (Actor Worker)) (gone : Bool) (waiting unsent supplied accepted : List ℕ)
        (ls : LeftSites starts pc ps) → IsHonest v
        → (h : HasVisited (actor_turns in_rounds worker_turns) starts net_pool v.conn v.came v.sent gone v.world)
        → Holds pc ps v.came v.sent waiting unsent supplied accepted
        → IsSiteWorld h.begun → ClientVisits ls.were.visits → IsBegun starts supplied accepted
    begun_last pc ps v gone waiting unsent supplied accepted ls honest h holds is t = record {
      sites = map (λ (u : client.Visit). u.site_contents) (t.them ++ as_visit (site_of h.begun is) v ∷ []);
      of_worlds =
          sites_last t.them (as_visit (site_of h.begun is) v) t.good
          (record { world = h.begun; started = h.started; is = is; same = refl });
      begins = clients.begins_in_turn (t.them ++ as_visit (site_of h.begun is) v ∷ []) supplied accepted
          (served_last pc ps waiting unsent supplied accepted ls.were t (as_visit (site_of h.begun is) v) a.begins
          holds);
    }
      where
        a : IsAnsweredBySite v.conn v.came v.sent gone v.world (of_site v.conn v.came v.sent gone v.world h) is
        a = sites v.conn v.came v.sent gone v.world (of_site v.conn v.came v.sent gone v.world h) is (sym h.honest.same
            ∙ honest)

    begun_left : (pc ps waiting unsent supplied accepted : List ℕ) (ls : LeftSites starts pc ps)
        → Holds pc ps [] [] waiting unsent supplied accepted → ClientVisits ls.were.visits
        → IsBegun starts supplied accepted
    begun_left pc ps waiting unsent supplied accepted ls holds t = record {
      sites = map (λ (u : client.Visit). u.site_contents) t.them;
      of_worlds = sites_of t.them t.good;
      begins =
          clients.begins_in_turn t.them supplied accepted
          (served_left pc ps waiting unsent supplied accepted ls.were t holds);
    }

    whole_last : (pc ps : List ℕ) (v : Visit (Actor Worker)) (waiting supplied accepted : List ℕ)
        (ls : LeftSites starts pc ps)
        → IsHonest v
        → (d : IsClosed (actor_turns in_rounds worker_turns) starts Framed net_pool v)
        → Holds pc ps v.came v.sent waiting [] supplied accepted
        → IsSiteWorld d.done.visited.begun → ClientVisits ls.were.visits → IsAnswered starts supplied accepted
    whole_last pc ps v waiting supplied accepted ls honest d holds is t = record {
      sites = map (λ (u : client.Visit). u.site_contents) (t.them ++ as_visit (site_of d.done.visited.begun is) v ∷ []);
      of_worlds =
          sites_last t.them (as_visit (site_of d.done.visited.begun is) v) t.good
          (record { world = d.done.visited.begun; started = d.done.visited.started; is = is; same = refl });
      whole = clients.whole_in_turn (t.them ++ as_visit (site_of d.done.visited.begun is) v ∷ []) supplied accepted
          (record {
            served =
                served_last pc ps waiting [] supplied accepted ls.were t (as_visit (site_of d.done.visited.begun is) v)
                a.begins holds;
            all = refl;
            ends =
                ends_closed waiting t.them (as_visit (site_of d.done.visited.begun is) v)
                (record { close = closes; answered = a.whole refl d.done.over });
          });
    }
      where
        a : IsAnsweredBySite v.conn v.came v.sent false v.world
            (of_site v.conn v.came v.sent false v.world d.done.visited) is
        a = sites v.conn v.came v.sent false v.world (of_site v.conn v.came v.sent false v.world d.done.visited) is
            (sym d.done.visited.honest.same ∙ honest)

        closes : Closes v.came
        closes =
            subst Closes (sym d.all)
            (kept.close d.before d.request.waiting d.request.size d.framed.0 (whole_kept kept d.before d.whole)
            d.framed.1
            d.framed.2)

    whole_left : (pc ps waiting supplied accepted : List ℕ) (ls : LeftSites starts pc ps) → Framed waiting Incomplete
        → Holds pc ps [] [] waiting [] supplied accepted → ClientVisits ls.were.visits
        → IsAnswered starts supplied accepted
    whole_left pc ps waiting supplied accepted ls none holds t = record {
      sites = map (λ (u : client.Visit). u.site_contents) t.them;
      of_worlds = sites_of t.them t.good;
      whole = clients.whole_in_turn t.them supplied accepted (record {
        served = served_left pc ps waiting [] supplied accepted ls.were t holds;
        all = refl;
        ends = ends_left waiting t.them t.good none;
      });
    }

    pub clients_answered : ClientsAreAnswered starts
    clients_answered = record {
      begins =
          λ pc ps v gone waiting unsent supplied accepted ls honest h holds. ∥∥₁_map₂ (are h.begun h.started)
          (client_visits ls.were.visits ls.were.left ls.honest)
          (λ is t. begun_last pc ps v gone waiting unsent supplied accepted ls honest h holds is t);
      apart =
          λ pc ps waiting unsent supplied accepted ls holds.
          ∥∥₁_map (client_visits ls.were.visits ls.were.left ls.honest)
          (λ t. begun_left pc ps waiting unsent supplied accepted ls holds t);
      closed =
          λ pc ps v waiting supplied accepted ls honest d holds.
          ∥∥₁_map₂ (are d.done.visited.begun d.done.visited.started)
          (client_visits ls.were.visits ls.were.left ls.honest)
          (λ is t. whole_last pc ps v waiting supplied accepted ls honest d holds is t);
      ended =
          λ pc ps waiting supplied accepted ls none holds. ∥∥₁_map (client_visits ls.were.visits ls.were.left ls.honest)
          (λ t. whole_left pc ps waiting supplied accepted ls none holds t);
    }
