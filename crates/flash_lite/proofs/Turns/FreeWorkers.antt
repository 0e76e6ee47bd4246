-- The free workers, as one client changes.
use Rattle.std.proofs.Common.{inl, inr, ◌≡◌, ◌≢◌, ℕ, zero, suc, ◌<◌, ◌≤◌, List, [], ◌∷◌, length, get_or, take, ap, ◌∙◌}
use Rattle.std.proofs.Common.{refl, sym, subst, arith, Option, Some, None, true, false, Bool, zero-add}
use Rattle.std.specs.Prelude.{not, ◌||◌, ◌&&◌, min, nat_lt, option_map}
use Rattle.std.specs.List.{list_any, position_or_len, range_with_len}
use Rattle.std.proofs.lemmas.Bool.{cases_eq}
use Rattle.std.proofs.lemmas.Bool.Decides.{nat_tests}
use Rattle.std.proofs.lemmas.List.{get_or-take, length-take-le}
use Rattle.std.proofs.lemmas.List.FromFn.{get_or-range_with_len, length-range_with_len}
use Rattle.std.proofs.lemmas.List.Sums.{position_or_len_is, prefix_len-le-length, fails_before_first, passes_at_first}
use Rattle.iol_core.specs.NumberedLists.{in_place}
use Rattle.iol_core.specs.declared.events.Reply.{Reply}
use Rattle.flash_http.specs.Request.{Answer, serve, refuse}
use Rattle.flash_laws.specs.Client.{Client, Readies, after_reply, run_after_reply, left_over, awaits}
use Rattle.flash_laws.specs.Conn.{Conn}
use Rattle.flash_laws.specs.Site.Places.{is_run_by, runs_at, is_free, first_free, has_free, may_go, EachHasItsOwn}
use Rattle.flash_laws.specs.Workers.OwnWorkers.{PendingCallGoes}
use Rattle.flash_laws.specs.Site.OtherConns.{left_by, with_at}
use Rattle.flash_laws.specs.declared.phase.Phase.{Phase}
use Rattle.flash_laws.specs.declared.phase.PendingCall.TheVariants.{At}
use Rattle.flash_laws.specs.declared.script_run.Running.{Running}
use Rattle.flash_laws.specs.declared.script_run.Running.TheVariants.{AwaitingWorker, InProgress, Finishing}
use Rattle.flash_laws.specs.declared.script_run.Running.TheVariants.{Disconnecting as Finished}
use Rattle.flash_laws.proofs.Site.InPlaces.{at-same, at-other, left-map}
use Rattle.flash_laws.proofs.Lists.{clash}
use Rattle.flash_lite.specs.Course.{left_with, worker_of}
use Rattle.flash_lite.specs.Table.{ReportsFree}
use Rattle.flash_lite.specs.ServerTurn.{TurnsFree, first_in, has_in, is_worker, worker_at, worker_in, worker_left}
use Rattle.flash_lite.specs.declared.client.Left.{Left}
use Rattle.flash_lite.specs.declared.client.Left.TheVariants.{Goes, Ends, Begins, Continues, Stays}
use Rattle.flash_lite.specs.declared.site.TheConstants.{MAX_WORKERS}

abbrev of : Conn → Option Running → List ℕ → Client
of c run script = record { conn = c; run = run; script = script }

-- ---- tests of some element, or of none

either : {P : Type 0} (b : Bool) → (b ≡ true → P) → (b ≡ false → P) → P
either true so not_so = so refl
either false so not_so = not_so refl

neither : (a b : Bool) → (a || b) ≡ false → (a ≡ false) × (b ≡ false)
neither true b is = absurd (cc (is))
neither false b is = (refl, is)

none-any : (p : Option Client → Bool) (xs : List (Option Client)) (i : ℕ) → p None ≡ false → list_any p xs ≡ false
    → p (in_place xs i) ≡ false
none-any p [] i none is = none
none-any p (x ∷ xs) zero none is = (neither (p x) (list_any p xs) is).0
none-any p (x ∷ xs) (suc i) none is = none-any p xs i none (neither (p x) (list_any p xs) is).1

nor : (a b : Bool) → a ≡ false → b ≡ false → (a || b) ≡ false
nor true b is none = absurd (cc (is))
nor false b is none = none

any-none : (p : Option Client → Bool) (xs : List (Option Client)) → ((i : ℕ) → p (in_place xs i) ≡ false)
    → list_any p xs ≡ false
any-none p [] none = refl
any-none p (x ∷ xs) none = nor (p x) (list_any p xs) (none 0) (any-none p xs (λ i. none (suc i)))

any-same : (p q : Option Client → Bool) (xs ys : List (Option Client)) → p None ≡ false → q None ≡ false
    → ((i : ℕ) → p (in_place xs i) ≡ q (in_place ys i)) → list_any p xs ≡ list_any q ys
any-same p q xs ys nop noq same = by (list_any p xs) (list_any q ys) refl refl
  where
    by : (b c : Bool) → list_any p xs ≡ b → list_any q ys ≡ c → b ≡ c
    by true true is it = refl
    by false false is it = refl
    by true false is it =
        absurd (let e : list_any p xs ≡ false = any-none p xs (λ i. same i ∙ none-any q ys i noq it) in
        let f : true ≡ false = sym is ∙ e in cc (f))
    by false true is it =
        absurd (let e : list_any q ys ≡ false = any-none q ys (λ i. sym (same i) ∙ none-any p xs i nop is) in
        let f : true ≡ false = sym it ∙ e in cc (f))

-- ---- a worker is free

free-same : (xs ys : List (Option Client)) (k : ℕ) → ((i : ℕ) → runs_at k (in_place xs i) ≡ runs_at k (in_place ys i))
    → is_free xs k ≡ is_free ys k
free-same xs ys k same = ap (λ b. not b) (any-same (λ o. runs_at k o) (λ o. runs_at k o) xs ys refl refl same)

-- if one client changes, and no worker runs the scripts of two clients
module _ (workers : ℕ) (clients : List (Option Client)) (own : EachHasItsOwn workers clients) (fd : ℕ)
    (o : Option Client) (k : ℕ) where
  taken-now : runs_at k o ≡ true → is_free (with_at clients fd o) k ≡ false
  taken-now runs =
      ap (λ b. not b) (either (list_any (λ z. runs_at k z) (with_at clients fd o)) (λ is. is)
      (λ is. absurd (clash (runs_at k o) runs (ap (λ (z : Option Client). runs_at k z) (sym (at-same clients fd o))
      ∙ none-any (λ z. runs_at k z) (with_at clients fd o) fd refl is))))

  others : (gd : ℕ) (y : Option Client) → runs_at k (in_place clients fd) ≡ true → fd ≢ gd → in_place clients gd ≡ y
      → runs_at k y ≡ false
  others gd None was differ is = refl
  others gd (Some y) was differ is =
      either (is_run_by y k) (λ runs. absurd (differ (mine (in_place clients fd) refl was runs))) (λ idle. idle)
    where
      mine : (z : Option Client) → in_place clients fd ≡ z → runs_at k z ≡ true → is_run_by y k ≡ true → fd ≡ gd
      mine None there was runs = absurd (cc (was))
      mine (Some x) there was runs = own.apart fd gd k x y there is was runs

  free-now : runs_at k o ≡ false → runs_at k (in_place clients fd) ≡ true → is_free (with_at clients fd o) k ≡ true
  free-now idle was = ap (λ b. not b) (any-none (λ z. runs_at k z) (with_at clients fd o) each)
    where
      each : (gd : ℕ) → runs_at k (in_place (with_at clients fd o) gd) ≡ false
      each gd = elim (cases_eq fd gd) [
        | inl same ↦ subst (λ g. runs_at k (in_place (with_at clients fd o) g) ≡ false) same
            (ap (λ (z : Option Client). runs_at k z) (at-same clients fd o) ∙ idle)
        | inr differ ↦ ap (λ (z : Option Client). runs_at k z) (at-other clients fd gd o differ)
            ∙ others gd (in_place clients gd) was differ refl
      ]

  free-still : runs_at k o ≡ false → runs_at k (in_place clients fd) ≡ false
      → is_free (with_at clients fd o) k ≡ is_free clients k
  free-still idle was = free-same (with_at clients fd o) clients k each
    where
      each : (gd : ℕ) → runs_at k (in_place (with_at clients fd o) gd) ≡ runs_at k (in_place clients gd)
      each gd = elim (cases_eq fd gd) [
        | inl same ↦ subst (λ g. runs_at k (in_place (with_at clients fd o) g) ≡ runs_at k (in_place clients g)) same
            (ap (λ (z : Option Client). runs_at k z) (at-same clients fd o) ∙ (idle ∙ sym was))
        | inr differ ↦ ap (λ (z : Option Client). runs_at k z) (at-other clients fd gd o differ)
      ]

  free-with : is_free (with_at clients fd o) k ≡ not (runs_at k o)
      && (runs_at k (in_place clients fd) || is_free clients k)
  free-with =
      either (runs_at k o)
      (λ runs. taken-now runs ∙ sym (ap (λ b. not b && (runs_at k (in_place clients fd) || is_free clients k)) runs))
      (λ idle. either (runs_at k (in_place clients fd))
      (λ was. free-now idle was ∙ sym (ap (λ b. not b && (runs_at k (in_place clients fd) || is_free clients k)) idle
      ∙ ap (λ b. b || is_free clients k) was))
      (λ was. free-still idle was ∙ sym (ap (λ b. not b && (runs_at k (in_place clients fd) || is_free clients k)) idle
      ∙ ap (λ b. b || is_free clients k) was)))

-- ---- the list of free workers

runs-worker : (c : Conn) (run : Option Running) (script : List ℕ) (k : ℕ)
    → is_run_by (of c run script) k ≡ is_worker (worker_of (of c run script)) k
runs-worker c None script k = refl
runs-worker c (Some AwaitingWorker) script k = refl
runs-worker c (Some (InProgress run s)) script k = refl
runs-worker c (Some (Finishing d)) script k = refl
runs-worker c (Some Finished) script k = refl

runs-in : (o : Option Client) (k : ℕ) → runs_at k o ≡ is_worker (worker_in o) k
runs-in None k = refl
runs-in (Some x) k = runs-worker x.conn x.run x.script k

-- the list stays correct after one client gets another worker, or none
pub reports_turned : (workers : ℕ) (clients : List (Option Client)) (free after : List Bool) (fd : ℕ)
    (o : Option Client) (now : Option ℕ) → EachHasItsOwn workers clients
    → ReportsFree free clients → TurnsFree free (worker_at clients fd) now after
    → ((k : ℕ) → runs_at k o ≡ is_worker now k) → ReportsFree after (with_at clients fd o)
reports_turned workers clients free after fd o now own reports turned runs = record {
  long = turned.long ∙ reports.long;
  each = λ k lt.
      turned.each k lt
      ∙ (ap (λ b. not b && (is_worker (worker_at clients fd) k || get_or free k false)) (sym (runs k))
      ∙ (ap (λ b. not (runs_at k o) && (b || get_or free k false)) (sym (runs-in (in_place clients fd) k))
      ∙ (ap (λ b. not (runs_at k o) && (runs_at k (in_place clients fd) || b)) (reports.each k lt)
      ∙ sym (free-with workers clients own fd o k))));
}

-- a client's script is run by worker k exactly if k is the client's worker
pub runs-some : (x : Client) (k : ℕ) → runs_at k (Some x) ≡ is_worker (worker_of x) k
runs-some x k = runs-worker x.conn x.run x.script k

with-left : (l : Left) (x : Client) (k : ℕ) → is_run_by (left_with x l) k ≡ is_worker (worker_left l (worker_of x)) k
with-left (Goes d) x k = runs-worker (record x.conn { phase = d }) x.run x.script k
with-left (Ends d) x k = refl
with-left Begins x k = refl
with-left (Continues d) x k = refl
with-left Stays x k = runs-worker x.conn x.run x.script k

over-runs : (c : Conn) (run : Option Running) (script : List ℕ) (k : ℕ)
    → runs_at k (left_over (of c run script)) ≡ is_run_by (of c run script) k
over-runs c None script k = by c.phase
  where
    none : (o : Option Conn) → runs_at k (option_map (λ (z : Conn). of z None script) o) ≡ false
    none None = refl
    none (Some z) = refl

    by : (d : Phase) → runs_at k (left_by d (of c None script)) ≡ false
    by d = ap (λ (o : Option Client). runs_at k o) (sym (left-map (λ (z : Conn). of z None script) d c))
        ∙ none (left_by d c)
over-runs c (Some y) script k = refl

pub left-runs : (l : Left) (t x : Client) (k : ℕ) → t ≡ left_with x l
    → runs_at k (left_over t) ≡ is_worker (worker_left l (worker_of x)) k
left-runs l t x k is = over-runs t.conn t.run t.script k ∙ (ap (λ (z : Client). is_run_by z k) is ∙ with-left l x k)

-- ---- the first free worker

pub first_is : (workers : ℕ) (free : List Bool) (clients : List (Option Client)) → ReportsFree free clients
    → workers ≤ MAX_WORKERS
    → first_in workers free ≡ first_free workers clients
first_is workers free clients reports few =
    let long = reports.long in
    let all : length (range_with_len 0 workers) ≡ workers = length-range_with_len 0 workers in
    let short = prefix_len-le-length (λ j. not (is_free clients j)) (range_with_len 0 workers) in
    let within : first_free workers clients ≤ workers = omega (arith, all, short) in
    let fits : workers ≤ length free = omega (arith, few, long) in
    let taken : length (take workers free) ≡ workers = length-take-le workers free fits in
    position_or_len_is (λ b. b) (take workers free) (first_free workers clients) false (omega (arith, within, taken))
    (λ k lt.
    let le : k < workers = omega (arith, within, lt) in
    get_or-take workers free k false le
    ∙ (reports.each k (omega (arith, le, few))
    ∙ (ap (λ j. is_free clients j) (sym (at k le))
    ∙ fails_before_first (λ j. is_free clients j) (range_with_len 0 workers) k 0 lt)))
    (λ lt.
    let le : first_free workers clients < workers = omega (arith, lt, taken) in
    get_or-take workers free (first_free workers clients) false le
    ∙ (reports.each (first_free workers clients) (omega (arith, le, few))
    ∙ (ap (λ j. is_free clients j) (sym (at (first_free workers clients) le))
    ∙ passes_at_first (λ j. is_free clients j) (range_with_len 0 workers) 0 (omega (arith, le, all)))))
  where
    at : (k : ℕ) → k < workers → get_or (range_with_len 0 workers) k 0 ≡ k
    at k lt = get_or-range_with_len 0 workers k 0 lt ∙ zero-add k

pub has_is : (workers : ℕ) (free : List Bool) (clients : List (Option Client)) → ReportsFree free clients
    → workers ≤ MAX_WORKERS
    → has_in workers free ≡ has_free workers clients
has_is workers free clients reports few = ap (λ k. nat_lt k workers) (first_is workers free clients reports few)

-- ---- the given worker matters only if the client waits for one, and then one is free

after_reply-same : (scripts : Bool) (a b : ℕ) (c : Conn) (run : Option Running) (script : List ℕ) (r : Reply)
    (received : List ℕ) → awaits (of c run script) ≡ false
    → after_reply scripts a (of c run script) r received ≡ after_reply scripts b (of c run script) r received
after_reply-same scripts a b c None script r received idle = refl
after_reply-same scripts a b c (Some AwaitingWorker) script r received idle = absurd (cc (idle))
after_reply-same scripts a b c (Some (InProgress run s)) script r received idle = by c.request
  where
    by : (q : Answer) → run_after_reply a q (of c (Some (InProgress run s)) script) (InProgress run s) r received
        ≡ run_after_reply b q (of c (Some (InProgress run s)) script) (InProgress run s) r received
    by (serve w) = refl
    by (refuse status head_only close) = refl
after_reply-same scripts a b c (Some (Finishing d)) script r received idle = by c.request
  where
    by : (q : Answer) → run_after_reply a q (of c (Some (Finishing d)) script) (Finishing d) r received
        ≡ run_after_reply b q (of c (Some (Finishing d)) script) (Finishing d) r received
    by (serve w) = refl
    by (refuse status head_only close) = refl
after_reply-same scripts a b c (Some Finished) script r received idle = by c.request
  where
    by : (q : Answer) → run_after_reply a q (of c (Some Finished) script) Finished r received
        ≡ run_after_reply b q (of c (Some Finished) script) Finished r received
    by (serve w) = refl
    by (refuse status head_only close) = refl

not-waits : (b : Bool) → (false || not b) ≡ true → b ≡ false
not-waits true may = absurd (cc (may))
not-waits false may = refl

pub after_reply_by_worker : (scripts : Bool) (workers a : ℕ) (clients : List (Option Client)) (fd : ℕ) (x : Client)
    (r : Reply) (received : List ℕ)
    → PendingCallGoes workers clients (At fd) → in_place clients fd ≡ Some x → workers ≤ MAX_WORKERS
    → a ≡ min (first_free workers clients) 7
    → after_reply scripts a x r received ≡ after_reply scripts (first_free workers clients) x r received
after_reply_by_worker scripts workers a clients fd x r received goes there few is =
    either (has_free workers clients)
    (λ free.
    let lt : first_free workers clients < workers = grind (arith, nat_tests, free) in
    let same : a ≡ first_free workers clients = omega (arith, lt, few, is) in
    ap (λ k. after_reply scripts k x r received) same)
    (λ none. after_reply-same scripts a (first_free workers clients) x.conn x.run x.script r received
    (not-waits (awaits x) (ap (λ b. b || not (awaits x)) (sym none) ∙ goes x there)))

-- ---- a client that continues may take its turn

unready : (c : Conn) (run : Option Running) (script : List ℕ) (y : Client) → Readies (of c run script) y → y.run ≡ run
unready c None script y ready = ap (λ (z : Client). z.run) ready.2
unready c (Some z) script y ready = ap (λ (z : Client). z.run) ready

waits-as : (c d : Conn) (run other : Option Running) (script text : List ℕ) → run ≡ other
    → awaits (of c run script) ≡ awaits (of d other text)
waits-as c d run other script text same =
    subst (λ (o : Option Running). awaits (of c run script) ≡ awaits (of d o text)) same (by run)
  where
    by : (run : Option Running) → awaits (of c run script) ≡ awaits (of d run text)
    by None = refl
    by (Some AwaitingWorker) = refl
    by (Some (InProgress r s)) = refl
    by (Some (Finishing e)) = refl
    by (Some Finished) = refl

pub ready-waits : (t y : Client) → Readies t y → awaits y ≡ awaits t
ready-waits t y ready = waits-as y.conn t.conn y.run t.run y.script t.script (unready t.conn t.run t.script y ready)

pub may_run : (free : Bool) (x : Client) → awaits x ≡ false → may_go free x ≡ true
may_run free x idle = by free (awaits x) idle
  where
    by : (b a : Bool) → a ≡ false → (b || not a) ≡ true
    by true a idle = refl
    by false a idle = ap (λ c. not c) idle
