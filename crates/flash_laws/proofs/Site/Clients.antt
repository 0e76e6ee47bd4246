-- For a server without workers no script runs: when it is new, and after each turn.
use Rattle.std.proofs.Common.{inl, inr, ◌≡◌, ℕ, List, ap, ◌∙◌, refl, sym, subst, Option, Some, None, false}
use Rattle.std.specs.Prelude.{nat_lt}
use Rattle.std.proofs.lemmas.Bool.{cases_eq}
use Rattle.iol_core.specs.NumberedLists.{in_place}
use Rattle.iol_core.specs.declared.events.Reply.{Reply}
use Rattle.iol_core.specs.declared.events.Reply.TheVariants as reply
use Rattle.iol_proc.specs.declared.process.Turn.{Turn}
use Rattle.flash_http.specs.Request.{Answer, serve, refuse}
use Rattle.flash_laws.specs.Client.{Client, new_client, is_for_script, file_after_reply, after_reply, Readies}
use Rattle.flash_laws.specs.Client.{left_over}
use Rattle.flash_laws.specs.Conn as conn
use Rattle.flash_laws.specs.Conn.{Conn}
use Rattle.flash_laws.specs.Site.Places.{NoneRuns, first_free, runs_scripts, after_reply_at, accepted, filed}
use Rattle.flash_laws.specs.Serves.{Picks}
use Rattle.flash_laws.specs.Site.OtherConns.{with_at}
use Rattle.flash_laws.specs.declared.phase.PendingCall.{PendingCall}
use Rattle.flash_laws.specs.declared.phase.PendingCall.TheVariants.{Nothing, Accepting, At}
use Rattle.flash_laws.specs.declared.script_run.Running.{Running}
use Rattle.flash_laws.proofs.Forms.{of}
use Rattle.flash_laws.proofs.Conn.Responses.{some-inj}
use Rattle.flash_laws.proofs.Site.InPlaces.{at-same, at-other, left-is}

-- the client of a connection for which no script runs
abbrev plain : Conn → List ℕ → Client
plain c script = record { conn = c; run = None; script = script }

-- without workers scripts are not run
pub none-run : (workers : ℕ) → workers ≡ 0 → runs_scripts workers ≡ false
none-run workers is = ap (λ k. nat_lt 0 k) is

none-for : (q : Answer) → is_for_script false q ≡ false
none-for (serve w) = refl
none-for (refuse status head_only close) = refl

pub after_reply-alone : (workers worker : ℕ) (c : Conn) (run : Option Running) (script : List ℕ) (r : Reply)
    (received : List ℕ) → workers ≡ 0 → run ≡ None
    → after_reply (runs_scripts workers) worker (of c run script) r received ≡ plain (conn.after_reply c r received)
    script
after_reply-alone workers worker c None script r received none is =
    ap (λ b. file_after_reply (is_for_script b c.request) (plain c script) r received) (none-run workers none)
    ∙ ap (λ b. file_after_reply b (plain c script) r received) (none-for c.request)
after_reply-alone workers worker c (Some y) script r received none is = absurd (cc (is))

readies-alone : (c : Conn) (run : Option Running) (script : List ℕ) (y : Client) → run ≡ None
    → Readies (of c run script) y
    → (ready : Conn) × conn.Readies c ready × (y ≡ plain ready script)
readies-alone c None script y is ready = ready
readies-alone c (Some z) script y is ready = absurd (cc (is))

-- ---- after a reply

-- one place changes
pub runs-set : (clients : List (Option Client)) (fd : ℕ) (o : Option Client) → NoneRuns clients
    → ((x : Client) → o ≡ Some x → x.run ≡ None)
    → NoneRuns (with_at clients fd o)
runs-set clients fd o runs here gd x is = elim (cases_eq fd gd) [
  | inl same ↦
      here x (sym (at-same clients fd o) ∙ subst (λ g. in_place (with_at clients fd o) g ≡ Some x) (sym same) is)
  | inr differ ↦ runs gd x (sym (at-other clients fd gd o differ) ∙ is)
]

-- a client without a run that is not removed still has none
left-none : (c : Conn) (script : List ℕ) (y : Client) → left_over (plain c script) ≡ Some y → y.run ≡ None
left-none c script y is = ap (λ (x : Client). x.run) (sym (left-is c.phase (plain c script) y is))

pub runs-filed : (workers : ℕ) (clients : List (Option Client)) (w : PendingCall) (r : Reply) (received : List ℕ)
    → workers ≡ 0 → NoneRuns clients
    → NoneRuns (filed workers clients w r received)
runs-filed workers clients Nothing r received none runs = runs
runs-filed workers clients Accepting r received none runs = by r
  where
    by : (r : Reply) → NoneRuns (accepted clients r)
    by (reply.Fd fd) =
        runs-set clients fd (Some new_client) runs (λ x is. ap (λ (z : Client). z.run) (sym (some-inj new_client x is)))
    by r = runs
runs-filed workers clients (At fd) r received none runs = by (in_place clients fd) refl
  where
    by : (o : Option Client) → in_place clients fd ≡ o → NoneRuns (after_reply_at workers clients fd o r received)
    by None is = runs
    by (Some x) is =
        let is_after_reply : after_reply (runs_scripts workers) (first_free workers clients) x r received
        ≡ plain (conn.after_reply x.conn r received) x.script =
        after_reply-alone workers (first_free workers clients) x.conn x.run x.script r received none
        (runs fd x is) in
        runs-set clients fd (left_over (after_reply (runs_scripts workers) (first_free workers clients) x r received))
        runs
        (λ y left. left-none (conn.after_reply x.conn r received) x.script y
        (ap (λ (z : Client). left_over z) (sym is_after_reply) ∙ left))

-- ---- a client is picked

pub runs-picked : (workers : ℕ) (clients : List (Option Client)) (w : PendingCall) (made : Turn)
    (after : List (Option Client)) → NoneRuns clients
    → Picks workers clients w made after → NoneRuns after
runs-picked workers clients (At fd) made after runs p =
    let got = readies-alone p.was.conn p.was.run p.was.script p.ready (runs fd p.was p.there) p.readies in
    subst (λ (l : List (Option Client)). NoneRuns l) (sym p.after_is)
    (runs-set clients fd (Some p.ready) runs (λ x is. ap (λ (z : Client). z.run) (sym (some-inj p.ready x is))
    ∙ ap (λ (z : Client). z.run) got.2))
runs-picked workers clients x made after runs p = subst (λ (l : List (Option Client)). NoneRuns l) (sym p.0) runs
