-- Each script that runs has a worker of its own.
use Rattle.std.proofs.Common.{inl, inr, ◌≡◌, ◌≢◌, ℕ, zero, suc, ◌+◌, ◌==◌, ◌<◌, ◌≤◌, ◌⊎◌, List, [], ◌∷◌, length, get_or}
use Rattle.std.proofs.Common.{ap, ◌∙◌, refl, sym, subst, arith, Option, Some, None, true, false, Bool, zero-add}
use Rattle.std.specs.Prelude.{not, nat_lt, ◌||◌}
use Rattle.std.specs.List.{list_any, position_or_len, range_with_len}
use Rattle.std.proofs.lemmas.Bool.{cases_eq}
use Rattle.std.proofs.lemmas.Bool.Decides.{nat_tests}
use Rattle.std.proofs.lemmas.List.FromFn.{get_or-range_with_len, length-range_with_len}
use Rattle.std.proofs.lemmas.List.Sums.{fails_before_first, passes_at_first}
use Rattle.iol_core.specs.NumberedLists.{in_place}
use Rattle.iol_core.specs.declared.events.Reply.{Reply}
use Rattle.iol_core.specs.declared.events.Reply.TheVariants as reply
use Rattle.iol_proc.specs.declared.process.Turn.{Turn}
use Rattle.flash_http.specs.Request.{Answer, serve, refuse, Wanted}
use Rattle.flash_laws.specs.Client.{Client, new_client, uses_agg, uses_fd, is_for_script, Readies, after_drop_whole}
use Rattle.flash_laws.specs.Client.{file_after_reply, proceeds, run_after_reply, after_reply, left_over, awaits}
use Rattle.flash_laws.specs.Conn.{Conn, is_head_only}
use Rattle.flash_laws.specs.Site.Places.{has_worker, is_run_by, runs_at, is_free, first_free, has_free, may_go}
use Rattle.flash_laws.specs.Site.Places.{EachHasItsOwn, runs_scripts, after_reply_at, accepted, filed}
use Rattle.flash_laws.specs.Run.OfferedBytes.{HasWorker}
use Rattle.flash_laws.specs.Run as running
use Rattle.flash_laws.specs.Run.{is_over, after_wait}
use Rattle.flash_laws.specs.Serves.{received_of, filed_in, Picks}
use Rattle.flash_laws.specs.Workers.OwnWorkers.{PendingCallGoes, RunsForAnother, WorkersAreShared}
use Rattle.flash_laws.specs.Site.OtherConns.{with_at}
use Rattle.flash_laws.specs.declared.phase.Payload.TheVariants.{Script}
use Rattle.flash_laws.specs.declared.phase.Phase.{Phase}
use Rattle.flash_laws.specs.declared.phase.Phase.TheVariants.{DroppingWhole}
use Rattle.flash_laws.specs.declared.phase.PendingCall.{PendingCall}
use Rattle.flash_laws.specs.declared.phase.PendingCall.TheVariants.{Nothing, Accepting, At}
use Rattle.flash_laws.specs.declared.script_run.Running.{Running}
use Rattle.flash_laws.specs.declared.script_run.Running.TheVariants.{AwaitingWorker, InProgress}
use Rattle.flash_laws.proofs.Forms.{of}
use Rattle.flash_laws.proofs.Conn.Responses.{some-inj}
use Rattle.flash_laws.proofs.Site.Clients.{runs-filed, runs-picked}
use Rattle.flash_laws.proofs.Site.InPlaces.{at-same, at-other, left-is}
use Rattle.flash_laws.proofs.Lists.{clash, must, neither, not-true, not-false}
use Rattle.flash_laws.proofs.Run.OfferedBytes.{keeps}
use Rattle.flash_laws.proofs.Conn.Uses.{same-number}

-- ---- free workers

none-any : {A : Type 0} (p : Option A → Bool) (xs : List (Option A)) (i : ℕ) → p None ≡ false → list_any p xs ≡ false
    → p (in_place xs i) ≡ false
none-any p [] i none is = none
none-any p (x ∷ xs) zero none is = (neither (p x) (list_any p xs) is).0
none-any p (x ∷ xs) (suc i) none is = none-any p xs i none (neither (p x) (list_any p xs) is).1

-- a free worker runs no script
pub free-runs : (clients : List (Option Client)) (k gd : ℕ) (y : Client) → is_free clients k ≡ true
    → in_place clients gd ≡ Some y → is_run_by y k ≡ false
free-runs clients k gd y free is =
    ap (λ (o : Option Client). runs_at k o) (sym is)
    ∙ none-any (λ (o : Option Client). runs_at k o) clients gd refl
    (not-true (list_any (λ o. runs_at k o) clients) free)

pub first-free : (workers : ℕ) (clients : List (Option Client)) → has_free workers clients ≡ true
    → (first_free workers clients < workers) × (is_free clients (first_free workers clients) ≡ true)
first-free workers clients free =
    let k = first_free workers clients in
    let lt : first_free workers clients < workers = grind (arith, nat_tests, free) in
    let within : position_or_len (λ j. is_free clients j) (range_with_len 0 workers)
    < length (range_with_len 0 workers) =
    subst (λ n. first_free workers clients < n) (sym (length-range_with_len 0 workers)) lt in
    let at : get_or (range_with_len 0 workers) (first_free workers clients) 0 ≡ first_free workers clients =
    get_or-range_with_len 0 workers (first_free workers clients) 0 lt ∙ zero-add (first_free workers clients) in (
      lt,
      ap (λ j. is_free clients j) (sym at) ∙ passes_at_first (λ j. is_free clients j) (range_with_len 0 workers) 0
          within,
    )

-- ---- the worker of a client after a reply: the one before, or the free one, if the client waited

abbrev pub Had : (worker : ℕ) → Client → (k : ℕ) → Type 0
Had worker x k = (is_run_by x k ≡ true) ⊎ ((awaits x ≡ true) × (k ≡ worker))

on-goes : (was over : Bool) (x : Client) (y z : Running) (k : ℕ) → is_run_by (proceeds was over x y z) k ≡ true
    → has_worker z k ≡ true
on-goes false true x y z k u = absurd (cc (u))
on-goes true true x y z k u = u
on-goes true false x y z k u = u
on-goes false false x y z k u = u

awaits-on : (worker : ℕ) (r : Reply) (k : ℕ) → has_worker (after_wait worker r) k ≡ true → k ≡ worker
awaits-on worker (reply.Fds from write) k u = sym (same-number worker k u)
awaits-on worker r k u = absurd (cc (u))

run-on : (z : Running) (worker k : ℕ) → HasWorker worker z → has_worker z k ≡ true → (worker == k) ≡ true
run-on AwaitingWorker worker k has u = absurd has
run-on (InProgress run s) worker k has u = ap (λ j. j == k) (sym has) ∙ u
run-on x worker k has u = absurd (cc (u))

on-run : (worker : ℕ) (w : Wanted) (c : Conn) (script : List ℕ) (y : Running) (r : Reply) (received : List ℕ) (k : ℕ)
    → has_worker (running.after_reply worker w y r received) k ≡ true → Had worker (of c (Some y) script) k
on-run worker w c script AwaitingWorker r received k u = inr (refl, awaits-on worker r k u)
on-run worker w c script (InProgress run s) r received k u =
    inl (run-on (running.after_reply worker w (InProgress run s) r received) run.worker k
    (keeps worker w run s r received) u)
on-run worker w c script x r received k u = absurd (cc (u))

-- a client for which no script runs has no worker after its reply
on-script : (buffered : List ℕ) (q : Answer) (d : Phase) (script : List ℕ) (r : Reply) (received : List ℕ) (k : ℕ)
    → is_run_by (file_after_reply true (of (record { buffered = buffered; request = q; phase = d }) None script) r
    received) k ≡ true
    → ⊥
on-script buffered q (DroppingWhole a Script) script r received k u = by (is_head_only q) r u
  where
    by : (h : Bool) (r : Reply)
        → is_run_by (of (record { buffered = buffered; request = q; phase = DroppingWhole a Script })
        (after_drop_whole h r) script) k
        ≡ true
        → ⊥
    by false reply.Done u = cc (u)
    by b r u = cc (u)
on-script buffered q d script r received k u = cc (u)

pub on-after_reply : (scripts : Bool) (worker : ℕ) (c : Conn) (run : Option Running) (script : List ℕ) (r : Reply)
    (received : List ℕ) (k : ℕ)
    → is_run_by (after_reply scripts worker (of c run script) r received) k ≡ true → Had worker (of c run script) k
on-after_reply scripts worker c None script r received k u = absurd (by (is_for_script scripts c.request) u)
  where
    by : (b : Bool) → is_run_by (file_after_reply b (of c None script) r received) k ≡ true → ⊥
    by true u = on-script c.buffered c.request c.phase script r received k u
    by false u = cc (u)
on-after_reply scripts worker c (Some y) script r received k u = by c.request u
  where
    by : (q : Answer) → is_run_by (run_after_reply worker q (of c (Some y) script) y r received) k ≡ true
        → Had worker (of c (Some y) script) k
    by (serve w) u =
        let z = running.after_reply worker w y r received in
        on-run worker w c script y r received k
        (on-goes (is_over y) (is_over (running.after_reply worker w y r received)) (of c (Some y) script) y
        (running.after_reply worker w y r received) k u)
    by (refuse status head_only close) u = inl u

pub left-over-is : (c : Conn) (run : Option Running) (script : List ℕ) (y : Client)
    → left_over (of c run script) ≡ Some y → of c run script ≡ y
left-over-is c None script y is = left-is c.phase (of c None script) y is
left-over-is c (Some z) script y is = some-inj (of c (Some z) script) y is

-- ---- one place changes

-- a worker that runs no other client's script
abbrev IsOwn : (workers : ℕ) → List (Option Client) → (fd k : ℕ) → Type 0
IsOwn workers clients fd k = (k < workers) × ((gd : ℕ) (z : Client) → fd ≢ gd → in_place clients gd ≡ Some z
    → is_run_by z k ≡ true → ⊥)

own-set : (workers : ℕ) (clients : List (Option Client)) (fd : ℕ) (o : Option Client) → EachHasItsOwn workers clients
    → ((k : ℕ) (y : Client) → o ≡ Some y → is_run_by y k ≡ true → IsOwn workers clients fd k)
    → EachHasItsOwn workers (with_at clients fd o)
own-set workers clients fd o own here = record {
  apart = λ gd hd k x y is_x is_y u v. elim (cases_eq fd gd) [
    | inl g ↦ elim (cases_eq fd hd) [
      | inl h ↦ sym g ∙ h
      | inr h ↦ absurd ((here k x (mine gd x g is_x) u).1 hd y h (old hd y h is_y) v)
    ]
    | inr g ↦ elim (cases_eq fd hd) [
      | inl h ↦ absurd ((here k y (mine hd y h is_y) v).1 gd x g (old gd x g is_x) u)
      | inr h ↦ own.apart gd hd k x y (old gd x g is_x) (old hd y h is_y) u v
    ]
  ];
  among = λ gd k x is u. elim (cases_eq fd gd) [
    | inl g ↦ (here k x (mine gd x g is) u).0
    | inr g ↦ own.among gd k x (old gd x g is) u
  ];
}
  where
    mine : (gd : ℕ) (y : Client) → fd ≡ gd → in_place (with_at clients fd o) gd ≡ Some y → o ≡ Some y
    mine gd y same is = sym (at-same clients fd o)
        ∙ subst (λ g. in_place (with_at clients fd o) g ≡ Some y) (sym same) is

    old : (gd : ℕ) (y : Client) → fd ≢ gd → in_place (with_at clients fd o) gd ≡ Some y → in_place clients gd ≡ Some y
    old gd y differ is = sym (at-other clients fd gd o differ) ∙ is

-- a client's worker is its own
still-own : (workers : ℕ) (clients : List (Option Client)) (fd k : ℕ) (x : Client) → EachHasItsOwn workers clients
    → in_place clients fd ≡ Some x
    → is_run_by x k ≡ true → IsOwn workers clients fd k
still-own workers clients fd k x own is u =
    (own.among fd k x is u, λ gd z differ is_z v. differ (own.apart fd gd k x z is is_z u v))

new-own : (workers : ℕ) (clients : List (Option Client)) (fd : ℕ) → has_free workers clients ≡ true
    → IsOwn workers clients fd (first_free workers clients)
new-own workers clients fd free =
    let first = first-free workers clients free in (
      first.0,
      λ gd z differ is v. clash (is_run_by z (first_free workers clients)) v
          (free-runs clients (first_free workers clients) gd z first.1 is),
    )

own-filed : (workers : ℕ) (clients : List (Option Client)) (w : PendingCall) (r : Reply) (received : List ℕ)
    → EachHasItsOwn workers clients
    → PendingCallGoes workers clients w → EachHasItsOwn workers (filed workers clients w r received)
own-filed workers clients Nothing r received own goes = own
own-filed workers clients Accepting r received own goes = by r
  where
    by : (r : Reply) → EachHasItsOwn workers (accepted clients r)
    by (reply.Fd fd) =
        own-set workers clients fd (Some new_client) own
        (λ k y is u. absurd (let none : false ≡ true = ap (λ (z : Client). is_run_by z k) (some-inj new_client y is)
        ∙ u in cc (none)))
    by r = own
own-filed workers clients (At fd) r received own goes = by (in_place clients fd) refl
  where
    by : (o : Option Client) → in_place clients fd ≡ o
        → EachHasItsOwn workers (after_reply_at workers clients fd o r received)
    by None is = own
    by (Some x) is = own-set workers clients fd (left_over after) own here
      where
        after : Client
        after = after_reply (runs_scripts workers) (first_free workers clients) x r received

        here : (k : ℕ) (y : Client) → left_over after ≡ Some y → is_run_by y k ≡ true → IsOwn workers clients fd k
        here k y left u =
            let same : after ≡ y = left-over-is after.conn after.run after.script y left in
            elim (on-after_reply (runs_scripts workers) (first_free workers clients) x.conn x.run x.script r received k
            (ap (λ (z : Client). is_run_by z k) same ∙ u)) [
              | inl was ↦ still-own workers clients fd k x own is was
              | inr new ↦
                  subst (λ j. IsOwn workers clients fd j) (sym new.1)
                  (new-own workers clients fd (must (has_free workers clients) (awaits x) (goes x is) new.0))
            ]

-- ---- a turn

pub ready-runs : (c : Conn) (run : Option Running) (script : List ℕ) (y : Client) → Readies (of c run script) y
    → y.run ≡ run
ready-runs c None script y ready = ap (λ (z : Client). z.run) ready.2
ready-runs c (Some z) script y ready = ap (λ (z : Client). z.run) ready

abbrev run_of : Option Running → (k : ℕ) → Bool
run_of run k = is_run_by (record new_client { run = run }) k

module _ (workers : ℕ) (clients : List (Option Client)) (own : EachHasItsOwn workers clients) (made : Turn)
    (after : List (Option Client)) where
  pub own-picked : (w : PendingCall) → Picks workers clients w made after → EachHasItsOwn workers after
  own-picked (At fd) p = subst (λ (l : List (Option Client)). EachHasItsOwn workers l) (sym p.after_is)
      (own-set workers clients fd (Some p.ready) own
      (λ k y is u. still-own workers clients fd k p.was own p.there
      (ap (λ (o : Option Running). run_of o k) (sym (ready-runs p.was.conn p.was.run p.was.script p.ready p.readies))
      ∙ (ap (λ (z : Client). run_of z.run k) (some-inj p.ready y is) ∙ u))))
  own-picked x p = subst (λ (l : List (Option Client)). EachHasItsOwn workers l) (sym p.0) own

  pub goes-picked : (w : PendingCall) → Picks workers clients w made after → PendingCallGoes workers after w
  goes-picked (At fd) p = λ x is.
      let same : p.ready ≡ x =
      some-inj p.ready x (sym (at-same clients fd (Some p.ready))
      ∙ (ap (λ (l : List (Option Client)). in_place l fd) (sym p.after_is) ∙ is)) in
      ap (λ (z : Client). may_go (has_free workers after) z) (sym same) ∙ p.goes
  goes-picked x p = tt

-- ---- waiting clients

all-busy : (workers : ℕ) (clients : List (Option Client)) (k : ℕ) → nat_lt (first_free workers clients) workers ≡ false
    → k < workers → is_free clients k ≡ false
all-busy workers clients k none lt =
    let past : workers ≤ first_free workers clients = grind (arith, nat_tests, none) in
    let before : k < first_free workers clients = omega (arith, past, lt) in
    let at : get_or (range_with_len 0 workers) k 0 ≡ k = get_or-range_with_len 0 workers k 0 lt ∙ zero-add k in
    ap (λ j. is_free clients j) (sym at) ∙ fails_before_first (λ j. is_free clients j) (range_with_len 0 workers) k 0
    before

-- a place that satisfies the test
record Passes {A : Type 0} (p : Option A → Bool) (xs : List (Option A)) : Type 0 where
  pub place : ℕ
  pub passes : p (in_place xs place) ≡ true

some-any : {A : Type 0} (p : Option A → Bool) (xs : List (Option A)) → list_any p xs ≡ true → Passes p xs
some-any p [] is = absurd (cc (is))
some-any {A} p (x ∷ xs) is = by (p x) refl is (λ later. some-any p xs later)
  where
    by : (b : Bool) → p x ≡ b → (b || list_any p xs) ≡ true → (list_any p xs ≡ true → Passes p xs) → Passes p (x ∷ xs)
    by true at is rest = record { place = 0; passes = at }
    by false at is rest = record { place = (rest is).place + 1; passes = at-next (rest is).place (rest is).passes }
      where
        at-next : (i : ℕ) → p (in_place xs i) ≡ true → p (in_place (x ∷ xs) (i + 1)) ≡ true
        at-next i is = let e : i + 1 ≡ suc i = omega arith in ap (λ z. p (in_place (x ∷ xs) z)) e ∙ is

-- a place whose client's script the worker runs
pub record RunsFor (clients : List (Option Client)) (k : ℕ) : Type 0 where
  pub fd : ℕ
  pub client : Client
  pub at : in_place clients fd ≡ Some client
  pub runs : is_run_by client k ≡ true

pub runs-for : (clients : List (Option Client)) (k : ℕ) → is_free clients k ≡ false → RunsFor clients k
runs-for clients k busy =
    let one =
    some-any (λ (o : Option Client). runs_at k o) clients (not-false (list_any (λ o. runs_at k o) clients) busy) in
    by one.place (in_place clients one.place) refl one.passes
  where
    by : (gd : ℕ) (o : Option Client) → in_place clients gd ≡ o → runs_at k o ≡ true → RunsFor clients k
    by gd None at runs = absurd (cc (runs))
    by gd (Some y) at runs = record { fd = gd; client = y; at = at; runs = runs }

waits-none : (c : Conn) (run : Option Running) (script : List ℕ) (k : ℕ) → awaits (of c run script) ≡ true
    → is_run_by (of c run script) k ≡ false
waits-none c (Some (InProgress run s)) script k waits = absurd (cc (waits))
waits-none c run script k waits = refl

another : (clients : List (Option Client)) (fd k : ℕ) (x : Client) → in_place clients fd ≡ Some x → awaits x ≡ true
    → is_free clients k ≡ false → RunsForAnother clients fd k
another clients fd k x there waits busy =
    let ran = runs-for clients k busy in
    record {
      place = ran.fd;
      client = ran.client;
      there = ran.at;
      runs = ran.runs;
      other =
          λ same. (let mine : ran.client ≡ x =
          some-inj ran.client x (sym ran.at ∙ (ap (λ z. in_place clients z) (sym same) ∙ there)) in
          clash (is_run_by ran.client k) ran.runs (ap (λ (z : Client). is_run_by z k) mine
          ∙ waits-none x.conn x.run x.script k waits));
    }

passed-over : (free waits : Bool) → (free || not waits) ≡ false → (free ≡ false) × (waits ≡ true)
passed-over true waits is = absurd (cc (is))
passed-over false true is = (refl, refl)
passed-over false false is = absurd (cc (is))

waits : (workers : ℕ) (clients : List (Option Client)) (fd : ℕ) (x : Client) → in_place clients fd ≡ Some x
    → may_go (has_free workers clients) x ≡ false
    → (awaits x ≡ true) × ((k : ℕ) → k < workers → RunsForAnother clients fd k)
waits workers clients fd x there passed =
    let both = passed-over (has_free workers clients) (awaits x) passed in
    (both.1, λ k lt. another clients fd k x there both.1 (all-busy workers clients k both.0 lt))

going : (free : Bool) (k : ℕ) (c : Conn) (run : Option Running) (script : List ℕ) → is_run_by (of c run script) k ≡ true
    → may_go free (of c run script) ≡ true
going true k c (Some (InProgress run s)) script runs = refl
going false k c (Some (InProgress run s)) script runs = refl
going free k c run script runs = absurd (cc (runs))

waiting : (c : Conn) (run : Option Running) (script : List ℕ) → awaits (of c run script) ≡ true
    → ((a : ℕ) → uses_agg (of c run script) a ≡ false) × ((g : ℕ) → uses_fd (of c run script) g ≡ false)
waiting c (Some AwaitingWorker) script waits = (λ a. refl, λ g. refl)
waiting c run script waits = absurd (cc (waits))

pub workers_shared : WorkersAreShared
workers_shared = record {
  waits = waits;
  going = λ free k x runs. going free k x.conn x.run x.script runs;
  waiting = λ x is. waiting x.conn x.run x.script is;
  first = λ workers. record {
    own = record { apart = λ fd gd k x y is_x is_y u v. absurd (cc (is_x)); among = λ fd k x is u. absurd (cc (is)) };
    goes = tt;
  };
  filing = own-filed;
  turns = λ s t last readable made is goes.
      let own = own-filed s.workers s.clients s.pending_call last (received_of last readable) is.own is.goes in
      let picks = goes.1 in
      let same = goes.2 in
      record {
        own =
            subst (λ k. EachHasItsOwn k t.clients) (sym same)
            (own-picked s.workers (filed_in s last readable) own made t.clients t.pending_call picks);
        goes =
            subst (λ k. PendingCallGoes k t.clients t.pending_call) (sym same)
            (goes-picked s.workers (filed_in s last readable) own made t.clients t.pending_call picks);
      };
  none = λ s t last readable made hired runs goes.
      runs-picked s.workers (filed_in s last readable) t.pending_call made t.clients
      (runs-filed s.workers s.clients s.pending_call last (received_of last readable) hired runs) goes.1;
}
