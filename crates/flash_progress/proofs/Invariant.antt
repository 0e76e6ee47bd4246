-- The server's requirements on the machine hold after each of its own turns; and their consequences.
use Rattle.std.proofs.Common.{◌≡◌, ℕ, ◌<◌, ◌≤◌, ◌==◌, List, [], ◌∷◌, length, ap, ◌∙◌, refl, sym, subst, arith, Some}
use Rattle.std.proofs.Common.{true, false, Bool, length-append}
use Rattle.std.specs.Prelude.{nat_lt, ◌&&◌}
use Rattle.std.specs.List.{list_all}
use Rattle.std.proofs.lemmas.Bool.Decides.{nat_tests}
use Rattle.std.proofs.lemmas.List.{length-map}
use Rattle.iol_core.specs.Text.{Text, bytes_of}
use Rattle.iol_core.specs.State.{State, Connection, Pool, is_pool, pool, may_read, descriptor, conn_at}
use Rattle.iol_core.specs.Run.{StepsTo}
use Rattle.iol_core.specs.declared.descriptors.Descriptor.TheVariants as on
use Rattle.iol_core.specs.declared.events.Call.{Call}
use Rattle.iol_core.specs.declared.events.Event.{Event}
use Rattle.iol_core.specs.declared.events.Event.TheVariants as event
use Rattle.iol_core.specs.declared.events.Reply.{Reply}
use Rattle.iol_core.specs.declared.limits.TheConstants.{MAX_OPEN}
use Rattle.iol_laws.specs.DescriptorNumbers.{AreLow}
use Rattle.iol_laws.specs.Frame.{closes_pool, EachStepLeavesTheRest}
use Rattle.iol_laws.specs.History.{HistoriesAddUp, stream_of}
use Rattle.iol_laws.specs.Labels.{ArrivalsLieInTheirPool, lies_in}
use Rattle.iol_laws.specs.Order.{IsOrderly, EachStepKeepsOrder}
use Rattle.iol_laws.specs.Reasons.{IsHidden}
use Rattle.iol_laws.proofs.Connections.{conn-unmade}
use Rattle.flash_laws.specs.SiteContents.{SiteContents}
use Rattle.flash_laws.specs.Site.{server}
use Rattle.flash_laws.specs.Workers.WorkerSet.{WorkerSet, IsFixedFor}
use Rattle.flash_laws.proofs.Lists.{clash}
use Rattle.flash_laws.proofs.Site.Others.{none-listed}
use Rattle.flash_laws.proofs.World.AllLaws.{AllLaws}
use Rattle.flash_laws.proofs.World.Calls.{is_client_call, kind-default, kind-admits}
use Rattle.flash_progress.specs.Served.{CanPlace, CanRead}
use Rattle.flash_progress.proofs.Holders.{holds-step}
use Rattle.flash_progress.proofs.Lengths.{text-fits}
use Rattle.flash_progress.proofs.ServerTurns.{IsKnown}

-- the further laws of the machine
pub record MoreLaws : Type 0 where
  pub homes : ArrivalsLieInTheirPool
  pub histories : HistoriesAddUp

-- the number of each connection that is not accepted is below `conns`
abbrev pub AreFew : (conns : ℕ) → State → Type 0
AreFew conns m = (c : ℕ) → (conn_at m c).accepted ≡ false → c < conns

-- in each state it is below the next number
pub few-now : (m : State) → IsOrderly m → AreFew m.next_conn m
few-now m order c waits = by (nat_lt c m.next_conn) refl
  where
    by : (b : Bool) → nat_lt c m.next_conn ≡ b → c < m.next_conn
    by true is = grind (arith, nat_tests, is)
    by false is =
        let le : m.next_conn ≤ c = grind (arith, nat_tests, is) in
        absurd (let none = ap (λ (k : Connection). k.accepted) (conn-unmade m c (order.conns c le)) in cc (none, waits))

-- ---- consequences

-- a call adds no unread bytes
none-come : HistoriesAddUp → (m n : State) (k : Call) (r : Reply) (c : ℕ) → IsOrderly m
    → StepsTo m (event.Call server k) r n
    → length (conn_at n c).incoming ≤ length (conn_at m c).incoming
unfolding stream_of
none-come histories m n k r c order step =
    let e = histories.unread m n (event.Call server k ∷ []) (r ∷ []) c order (n, step, refl) in
    let all = ap (λ (l : List ℕ). length l) e.all in
    let one = length-append (bytes_of (conn_at m c).incoming) (stream_of c (event.Call server k ∷ []) (r ∷ [])) in
    let none : length (stream_of c (event.Call server k ∷ []) (r ∷ [])) ≡ 0 = refl in
    let two = length-append e.taken (bytes_of (conn_at n c).incoming) in
    let was = length-map (conn_at m c).incoming (λ b. b.0) in
    let now = length-map (conn_at n c).incoming (λ b. b.0) in
    omega (arith, all, one, none, two, was, now)

-- the server may read the unread bytes of its connections
all-seen : ArrivalsLieInTheirPool → (m : State) → CanRead m → (fd c q : ℕ)
    → descriptor m server fd ≡ Some (on.Connection c) → IsHidden m server q (conn_at m c).incoming → ⊥
all-seen homes m reads fd c q opened hidden =
    let all : lies_in (conn_at m c).pool ((hidden.byte, q) ∷ hidden.rest) ≡ true =
    subst (λ (t : Text). lies_in (conn_at m c).pool t ≡ true) hidden.text_is (homes.each m c reads.home) in
    let first : (q == (conn_at m c).pool) ≡ true = first-lies q (conn_at m c).pool hidden.byte hidden.rest all in
    let same : q ≡ (conn_at m c).pool = grind (arith, nat_tests, first) in
    clash (may_read m server q) (subst (λ z. may_read m server z ≡ true) (sym same) (reads.holders server fd c opened))
    hidden.may_not
  where
    first-lies : (q pool byte : ℕ) (rest : Text) → lies_in pool ((byte, q) ∷ rest) ≡ true → (q == pool) ≡ true
    first-lies q pool byte rest all = by (q == pool) all
      where
        by : (b : Bool) → (b && list_all (λ z. z.1 == pool) rest) ≡ true → b ≡ true
        by true is = refl
        by false is = absurd (cc (is))

pub known-of : (more : MoreLaws) (conns : ℕ) (m : State) → IsOrderly m → AreLow m → CanRead m → CanPlace m
    → AreFew conns m → IsKnown MAX_OPEN conns m
known-of more conns m order low reads places few = record {
  room = λ q k proper short. record {
    place = places.place;
    default = places.default;
    open_yet = places.open_yet;
    fits = (let text = text-fits q k proper short in omega (arith, text));
  };
  seen = all-seen more.homes m reads;
  low = λ fd c opened. low server fd (on.Connection c) opened;
  few = few;
  none_come = λ n k r c step. none-come more.histories m n k r c order step;
}

-- ---- after an event

-- arrivals can be read
pub read-step : ArrivalsLieInTheirPool → EachStepLeavesTheRest → EachStepKeepsOrder
    → (s t : State) (e : Event) (r : Reply) → IsOrderly s → CanRead s → StepsTo s e r t → CanRead t
read-step homes steps orders s t e r order reads step = record {
  home = homes.step s t e r reads.home step;
  holders =
      holds-step s t order (orders.step s t e r order step) (λ d p may. (steps.leaves s t e r step).readers d p may)
      reads.holders e r step;
}

module _ (site_contents : SiteContents) (worker_set : WorkerSet) (laws : AllLaws worker_set) (m n : State) (k : Call)
    (r : Reply) (order : IsOrderly m) (fixed : IsFixedFor site_contents worker_set m)
    (step : StepsTo m (event.Call server k) r n) where
  -- the default pool stays open over a call for a client that closes none
  pub places-on : CanPlace m → is_client_call k ≡ true → ((q : ℕ) → closes_pool (event.Call server k) q ≡ false)
      → CanPlace n
  places-on places kind closes =
      let leaves = laws.the.steps.leaves m n (event.Call server k) r step in
      record {
        place = places.place;
        default = leaves.defaults server fixed.site.lives (kind-default k kind) ∙ places.default;
        open_yet =
            ap (λ (x : Pool). x.closed)
            (leaves.pools places.place (there (is_pool m places.place) refl) (closes places.place)
            (kind-admits k places.place kind)) ∙ places.open_yet;
      }
    where
      there : (b : Bool) → is_pool m places.place ≡ b → is_pool m places.place ≡ true
      there true is = is
      there false is =
          absurd (none-listed m server places.place is (fixed.access.default server places.place places.default))

  -- no connection becomes unaccepted
  pub few-calls : (conns : ℕ) → AreFew conns m → AreFew conns n
  few-calls conns few c waits = few c (by (conn_at m c).accepted refl)
    where
      by : (b : Bool) → (conn_at m c).accepted ≡ b → (conn_at m c).accepted ≡ false
      by false is = is
      by true is = absurd (let still = laws.the.other.accepted m n server k r c order step is in cc (still, waits))
