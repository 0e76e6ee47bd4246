-- A pipe after a change, and whether the object of a descriptor exists after it.
use Rattle.std.proofs.Common.{inl, inr, zero, suc, ◌≡◌, ◌≢◌, ℕ, ◌⊎◌, List, [], ◌∷◌, ap, ◌∙◌, refl, sym, subst, Option}
use Rattle.std.proofs.Common.{Some, None, true, false, Bool}
use Rattle.std.specs.Prelude.{slice_set, unwrap_or, not, ◌&&◌, ◌||◌, if◌then◌else◌}
use Rattle.std.proofs.lemmas.Bool.{cases_eq}
use Rattle.iol_core.specs.Text.{Text}
use Rattle.iol_core.specs.NumberedLists.{in_place, lowest, placed}
use Rattle.iol_core.specs.State.{State, Domain, Pipe, Connection, domain, is_live, pipe_at, conn_at, no_pipe, new_pipe}
use Rattle.iol_core.specs.State.{with_domain, with_pipe, with_conn}
use Rattle.iol_core.specs.Calls.Descriptors as fds
use Rattle.iol_core.specs.declared.descriptors.Descriptor.{Descriptor}
use Rattle.iol_core.specs.declared.descriptors.Descriptor.TheVariants as on
use Rattle.iol_core.proofs.Lookups.{domain-same}
use Rattle.iol_laws.specs.Order.{Once, stands}
use Rattle.iol_laws.proofs.Connections.{after-with_conn, conn-with_same, conns_conn, conns_same, not-over}
use Rattle.iol_laws.proofs.Domains.{domain-with_same, with_domain-twice}
use Rattle.iol_laws.proofs.Frame.Pipes.{pipes_pipe, pipes_same}
use Rattle.iol_laws.proofs.Places.{lowest-free, place-new, place-placed_other, place-set_free}
use Rattle.iol_laws.proofs.Tests.{both-true, left-false, not-true, right-false}

-- A pipe has the value that was set, unless both its ends are closed.

pub pipe-with_same : (s : State) (p : ℕ) (x : Pipe) → ((pipe_at s p).reading || (pipe_at s p).writing) ≡ true
    → (x.reading || x.writing) ≡ true → pipe_at (with_pipe s p x) p ≡ x
unfolding pipe_at with_pipe
pipe-with_same s p x was on = by s.pipes p was
  where
    by : (xs : List (Option Pipe)) (n : ℕ)
        → ((unwrap_or (in_place xs n) no_pipe).reading || (unwrap_or (in_place xs n) no_pipe).writing) ≡ true
        → unwrap_or (in_place (slice_set xs n (if x.reading || x.writing then Some x else None)) n) no_pipe ≡ x
    by [] n was = absurd (cc)
    by (z ∷ xs) zero was = ap (λ b. unwrap_or (if b then Some x else None) no_pipe) on
    by (z ∷ xs) (suc n) was = by xs n was

pub pipe-gone : (s : State) (p : ℕ) (x : Pipe) → (x.reading || x.writing) ≡ false
    → pipe_at (with_pipe s p x) p ≡ no_pipe
unfolding pipe_at with_pipe
pipe-gone s p x off = ap (λ b. unwrap_or (in_place (slice_set s.pipes p (if b then Some x else None)) p) no_pipe) off
    ∙ ap (λ (o : Option Pipe). unwrap_or o no_pipe) (place-set_free s.pipes p)

-- the pipe, or no pipe if both its ends are closed
abbrev pub left_of : Pipe → Pipe
left_of x = if x.reading || x.writing then x else no_pipe

pub pipe-left : (s : State) (p : ℕ) (x : Pipe)
    → ((x.reading || x.writing) ≡ true → ((pipe_at s p).reading || (pipe_at s p).writing) ≡ true)
    → pipe_at (with_pipe s p x) p ≡ left_of x
pipe-left s p x was = by (x.reading || x.writing) refl
  where
    by : (b : Bool) → (x.reading || x.writing) ≡ b → pipe_at (with_pipe s p x) p ≡ (if b then x else no_pipe)
    by true on = pipe-with_same s p x (was on) on
    by false off = pipe-gone s p x off

pub pipe-either : (s : State) (p : ℕ) (x : Pipe) → (pipe_at (with_pipe s p x) p ≡ x)
    ⊎ (pipe_at (with_pipe s p x) p ≡ no_pipe)
unfolding pipe_at with_pipe
pipe-either s p x = by (x.reading || x.writing) refl s.pipes p
  where
    by : (b : Bool) → (x.reading || x.writing) ≡ b → (xs : List (Option Pipe)) (n : ℕ)
        → (unwrap_or (in_place (slice_set xs n (if b then Some x else None)) n) no_pipe ≡ x)
        ⊎ (unwrap_or (in_place (slice_set xs n (if b then Some x else None)) n) no_pipe ≡ no_pipe)
    by b is [] n = inr refl
    by true is (z ∷ xs) zero = inl refl
    by false is (z ∷ xs) zero = inr refl
    by b is (z ∷ xs) (suc n) = by b is xs n

-- A new pipe.

pub pipe-there : (s : State) → pipe_at (record s { pipes = placed s.pipes (lowest s.pipes) new_pipe }) (lowest s.pipes)
    ≡ new_pipe
unfolding pipe_at
pipe-there s = ap (λ o. unwrap_or o no_pipe) (place-new s.pipes new_pipe)

pub pipe-none : (s : State) → pipe_at s (lowest s.pipes) ≡ no_pipe
unfolding pipe_at
pipe-none s = ap (λ o. unwrap_or o no_pipe) (lowest-free s.pipes)

pub pipe-other : (s : State) (q : ℕ) → lowest s.pipes ≢ q
    → pipe_at (record s { pipes = placed s.pipes (lowest s.pipes) new_pipe }) q ≡ pipe_at s q
unfolding pipe_at
pipe-other s q differ = ap (λ o. unwrap_or o no_pipe) (place-placed_other s.pipes q new_pipe differ)

-- opening the two ends of a new pipe one after another is the call `pipe`
pub pipe-twice : (s : State) (by : ℕ) → is_live s by ≡ true
    → fds.opened (fds.opened (record s { pipes = placed s.pipes (lowest s.pipes) new_pipe }) by
    (on.ReadEnd (lowest s.pipes))) by (on.WriteEnd (lowest s.pipes)) ≡ (fds.pipe s by).after
unfolding with_domain
pipe-twice s by live =
    let new : ℕ = lowest s.pipes in
    let u : State = record s { pipes = placed s.pipes new new_pipe } in
    let dom : domain u by ≡ domain s by = domain-same s u by refl in
    let x : Domain Text = record (domain u by) { fds = placed (domain u by).fds (fds.next_fd u by) (on.ReadEnd new) } in
    let there : domain (with_domain u by x) by ≡ x =
    domain-with_same u by x (ap (λ (z : Domain Text). z.live) dom ∙ live) in
    with_domain-twice u by x
    (record (domain (with_domain u by x) by) {
      fds =
          placed (domain (with_domain u by x) by).fds (lowest (domain (with_domain u by x) by).fds) (on.WriteEnd new);
    })
    ∙ (ap (λ (z : Domain Text). with_domain u by (record z { fds = placed z.fds (lowest z.fds) (on.WriteEnd new) }))
    there
    ∙ ap
    (λ (z : Domain Text). with_domain u by
    (record z {
      fds = placed (fds.with_read_end z.fds new) (lowest (fds.with_read_end z.fds new)) (on.WriteEnd new);
    })) dom)

-- The objects of descriptors.

pub stands-same : (s t : State) (y : Descriptor) → t.conns ≡ s.conns → t.pipes ≡ s.pipes → stands t y ≡ stands s y
stands-same s t (on.File f at mode) conns pipes = refl
stands-same s t (on.ReadEnd p) conns pipes = ap (λ (x : Pipe). x.reading) (pipes_same s t (λ k. false) pipes p refl)
stands-same s t (on.WriteEnd p) conns pipes = ap (λ (x : Pipe). x.writing) (pipes_same s t (λ k. false) pipes p refl)
stands-same s t (on.Connection c) conns pipes =
    ap (λ (x : Connection). x.accepted && not x.closed) (conns_same s t (λ k. false) conns c refl)

-- the ends of a pipe that is replaced by one with the same ends
pipe-ends : (s : State) (p : ℕ) (x : Pipe) → x.reading ≡ (pipe_at s p).reading → x.writing ≡ (pipe_at s p).writing
    → ((pipe_at (with_pipe s p x) p).reading ≡ x.reading) × ((pipe_at (with_pipe s p x) p).writing ≡ x.writing)
pipe-ends s p x reads writes = by (x.reading || x.writing) refl
  where
    by : (b : Bool) → (x.reading || x.writing) ≡ b → ((pipe_at (with_pipe s p x) p).reading ≡ x.reading)
        × ((pipe_at (with_pipe s p x) p).writing ≡ x.writing)
    by true on =
        (let e =
        pipe-with_same s p x (ap (λ b. b || (pipe_at s p).writing) (sym reads)
        ∙ (ap (λ b. x.reading || b) (sym writes) ∙ on)) on in
        (ap (λ (k : Pipe). k.reading) e, ap (λ (k : Pipe). k.writing) e))
    by false off =
        (let e = pipe-gone s p x off in (
          ap (λ (k : Pipe). k.reading) e ∙ sym (left-false x.reading x.writing off),
          ap (λ (k : Pipe). k.writing) e
              ∙ sym (right-false x.reading x.writing off),
        ))

pub stands-pipe : (s : State) (p : ℕ) (x : Pipe) → x.reading ≡ (pipe_at s p).reading → x.writing ≡ (pipe_at s p).writing
    → (y : Descriptor) → stands (with_pipe s p x) y ≡ stands s y
unfolding with_pipe
stands-pipe s p x reads writes (on.File f at mode) = refl
stands-pipe s p x reads writes (on.Connection c) =
    ap (λ (k : Connection). k.accepted && not k.closed) (conns_same s (with_pipe s p x) (λ k. false) refl c refl)
stands-pipe s p x reads writes (on.ReadEnd q) = elim (cases_eq p q) [
  | inr differ ↦ ap (λ (k : Pipe). k.reading) (pipes_pipe s p x q differ)
  | inl same ↦ subst (λ n. (pipe_at (with_pipe s p x) n).reading ≡ (pipe_at s n).reading) same
      ((pipe-ends s p x reads writes).0 ∙ reads)
]
stands-pipe s p x reads writes (on.WriteEnd q) = elim (cases_eq p q) [
  | inr differ ↦ ap (λ (k : Pipe). k.writing) (pipes_pipe s p x q differ)
  | inl same ↦ subst (λ n. (pipe_at (with_pipe s p x) n).writing ≡ (pipe_at s n).writing) same
      ((pipe-ends s p x reads writes).1 ∙ writes)
]

abbrev pub is_used : Connection → Bool
is_used k = k.accepted && not k.closed

-- a connection that is replaced by one that is closed exactly if it was
pub conn-used : (s : State) (c : ℕ) (x : Connection) → Once s.conns → x.closed ≡ (conn_at s c).closed
    → is_used (conn_at (with_conn s c x) c) ≡ is_used x
conn-used s c x once closed = by (is_used x) refl
  where
    by : (b : Bool) → is_used x ≡ b → is_used (conn_at (with_conn s c x) c) ≡ is_used x
    by true is = (let both = both-true x.accepted (not x.closed) is in let lives = not-true x.closed both.1 in
        ap is_used (conn-with_same s c x (sym closed ∙ lives) (not-over x both.0 lives)))
    by false is = elim (after-with_conn s c x once) [
      | inl there ↦ ap is_used there
      | inr none ↦ ap is_used none
          ∙ sym is
    ]

pub stands-conn : (s : State) (c : ℕ) (x : Connection) → Once s.conns → x.accepted ≡ (conn_at s c).accepted
    → x.closed ≡ (conn_at s c).closed → (y : Descriptor) → stands (with_conn s c x) y ≡ stands s y
unfolding with_conn
stands-conn s c x once accepted closed (on.File f at mode) = refl
stands-conn s c x once accepted closed (on.ReadEnd p) =
    ap (λ (k : Pipe). k.reading) (pipes_same s (with_conn s c x) (λ k. false) refl p refl)
stands-conn s c x once accepted closed (on.WriteEnd p) =
    ap (λ (k : Pipe). k.writing) (pipes_same s (with_conn s c x) (λ k. false) refl p refl)
stands-conn s c x once accepted closed (on.Connection e) = elim (cases_eq c e) [
  | inr differ ↦ ap is_used (conns_conn s c x e differ)
  | inl same ↦ subst (λ n. is_used (conn_at (with_conn s c x) n) ≡ is_used (conn_at s n)) same
      (conn-used s c x once closed
      ∙ (ap (λ b. b && not x.closed) accepted ∙ ap (λ b. (conn_at s c).accepted && not b) closed))
]
