-- Every call leaves the values of aggregates unchanged, except of those that it consumes.
use Rattle.std.proofs.Common.{inl, inr, ◌≡◌, ◌≢◌, ℕ, ◌+◌, ◌==◌, List, [], ◌∷◌, ◌++◌, length, take, drop, ap, ◌∙◌, refl}
use Rattle.std.proofs.Common.{sym, subst, arith, Option, Some, None, true, false, Bool}
use Rattle.std.specs.Prelude.{fold, ◌&&◌, ◌||◌, slice_set, option_map, unwrap_or, if◌then◌else◌, Result, Ok, Err}
use Rattle.std.specs.List.{list_any}
use Rattle.std.specs.Option.{option_map_or}
use Rattle.std.proofs.lemmas.Bool.Decides.{nat_tests}
use Rattle.std.proofs.lemmas.Grind.{common_steps}
use Rattle.iol_core.specs.Text.{Text, labelled, bytes_of, part}
use Rattle.iol_core.specs.NumberedLists.{lookup, without, lowest, placed}
use Rattle.iol_core.specs.State.{State, Domain, Pipe, Connection, domain, aggregate, descriptor, content, pipe_at}
use Rattle.iol_core.specs.State.{conn_at, new_domain, no_domain, with_domain, with_pipe, with_conn, with_content, text}
use Rattle.iol_core.specs.Meaning.{Meaning, Step}
use Rattle.iol_core.specs.Values.{gives_up, ValuesStay}
use Rattle.iol_core.specs.Calls.Domains.{domain_new, exit}
use Rattle.iol_core.specs.Calls.Pools.{pool_create, pool_close, pool_admit}
use Rattle.iol_core.specs.Calls.Aggregates as aggs
use Rattle.iol_core.specs.Calls.Descriptors as fds
use Rattle.iol_core.specs.Calls.Files as files
use Rattle.iol_core.specs.Calls.Outside.{conn_new, closed_by, flush, drop_clean}
use Rattle.iol_core.specs.Calls.Reads as reading
use Rattle.iol_core.specs.Calls.Writes as writing
use Rattle.iol_core.specs.Run.{called, meaning, StepsTo, Run, outcome}
use Rattle.iol_core.specs.declared.refusals.Refusal.{Refusal}
use Rattle.iol_core.specs.declared.descriptors.Descriptor.{Descriptor}
use Rattle.iol_core.specs.declared.descriptors.Descriptor.TheVariants as on
use Rattle.iol_core.specs.declared.descriptors.Mode.{Mode}
use Rattle.iol_core.specs.declared.events.Call.{Call}
use Rattle.iol_core.specs.declared.events.Call.TheVariants as call
use Rattle.iol_core.specs.declared.events.Event.{Event}
use Rattle.iol_core.specs.declared.events.Event.TheVariants as event
use Rattle.iol_core.specs.declared.events.Reply.{Reply}
use Rattle.iol_core.proofs.Lookups.{domain-with_domain, domain-same, domain-push, lookup-append, lookup-without}

-- the aggregates that are given up: a test of a domain and a number
abbrev pub Given : Type 0
Given = (d a : ℕ) → Bool

abbrev pub nothing : Given
nothing d a = false

abbrev pub one_of : (by b : ℕ) → Given
one_of by b d a = (by == d) && (b == a)

-- each aggregate that is not given up is unchanged
abbrev pub KeepsValues : (s t : State) → Given → Type 0
KeepsValues s t given = (d a : ℕ) (x : Text) → aggregate s d a ≡ Some x → given d a ≡ false → aggregate t d a ≡ Some x

-- After each kind of change.

pub values_then : (s t u : State) (given : Given) → KeepsValues s t nothing → KeepsValues t u given
    → KeepsValues s u given
values_then s t u given one two d a x is kept = two d a x (one d a x is refl) kept

pub values_same : (s t : State) → t.domains ≡ s.domains → KeepsValues s t nothing
values_same s t same d a x is kept = ap (λ (y : Domain Text). lookup y.aggs a) (domain-same s t d same) ∙ is

pub values_domain : (s : State) (by : ℕ) (y : Domain Text) (given : Given)
    → ((a : ℕ) (x : Text) → aggregate s by a ≡ Some x → given by a ≡ false → lookup y.aggs a ≡ Some x)
    → KeepsValues s (with_domain s by y) given
values_domain s by y given each d a x is kept = elim (domain-with_domain s by d y) [
  | inl both ↦ ap (λ (z : Domain Text). lookup z.aggs a) both.1
      ∙ each a x (subst (λ n. aggregate s n a ≡ Some x) (sym both.0) is)
      (subst (λ n. given n a ≡ false) (sym both.0) kept)
  | inr same ↦ ap (λ (z : Domain Text). lookup z.aggs a) same ∙ is
]

pub values_fds : (s : State) (d : ℕ) (xs : List (Option Descriptor)) → KeepsValues s (fds.with_fds s d xs) nothing
values_fds s d xs = values_domain s d (record (domain s d) { fds = xs }) nothing (λ a x is kept. is)

pub values_pipe : (s : State) (p : ℕ) (x : Pipe) → KeepsValues s (with_pipe s p x) nothing
unfolding with_pipe
values_pipe s p x = values_same s (with_pipe s p x) refl

pub values_conn : (s : State) (c : ℕ) (x : Connection) → KeepsValues s (with_conn s c x) nothing
unfolding with_conn
values_conn s c x = values_same s (with_conn s c x) refl

pub values_content : (s : State) (f : ℕ) (bytes : List ℕ) → KeepsValues s (with_content s f bytes) nothing
unfolding with_content
values_content s f bytes = values_same s (with_content s f bytes) refl

pub values_with_agg : (s : State) (d : ℕ) (t : Text) → KeepsValues s (aggs.with_agg s d t) nothing
values_with_agg s d t =
    let list : List (ℕ × Text) = (domain s d).aggs ++ ((domain s d).next_agg, t) ∷ [] in
    values_domain s d (record (domain s d) { aggs = list; next_agg = (domain s d).next_agg + 1 }) nothing
    (λ a x is kept. lookup-append (domain s d).aggs (((domain s d).next_agg, t) ∷ []) a x is)

differs : (by b a : ℕ) → one_of by b by a ≡ false → b ≢ a
differs by b a kept same = grind (arith, nat_tests, common_steps, kept, same)

pub values_without_agg : (s : State) (d a : ℕ) → KeepsValues s (aggs.without_agg s d a) (one_of d a)
values_without_agg s d a =
    values_domain s d (record (domain s d) { aggs = without (domain s d).aggs a }) (one_of d a)
    (λ n x is kept. lookup-without (domain s d).aggs a n (differs d a n kept) ∙ is)

pub values_closed_on : (s : State) (o : Option Descriptor) → KeepsValues s (fds.closed_on s o) nothing
values_closed_on s None = λ d a x is kept. is
values_closed_on s (Some (on.File f at mode)) = λ d a x is kept. is
values_closed_on s (Some (on.ReadEnd p)) = values_pipe s p (record (pipe_at s p) { queue = []; reading = false })
values_closed_on s (Some (on.WriteEnd p)) = values_pipe s p (record (pipe_at s p) { writing = false })
values_closed_on s (Some (on.Connection c)) = values_conn s c (record (conn_at s c) { incoming = []; closed = true })

pub values_all_closed : (s : State) (list : List (Option Descriptor))
    → KeepsValues s (fold fds.closed_on s list) nothing
values_all_closed s [] = λ d a x is kept. is
values_all_closed s (o ∷ list) =
    values_then s (fds.closed_on s o) (fold fds.closed_on s (o ∷ list)) nothing (values_closed_on s o)
    (values_all_closed (fds.closed_on s o) list)

-- After each call.

values_domain_new : (s : State) (by : ℕ) → KeepsValues s (domain_new s by).after nothing
values_domain_new s by d a x is kept = elim (domain-push s new_domain d) [
  | inl same ↦ ap (λ (z : Domain Text). lookup z.aggs a) same ∙ is
  | inr both ↦ absurd (none (sym (ap (λ (z : Domain Text). lookup z.aggs a) both.0) ∙ is))
]
  where
    none : lookup (no_domain {A = Text}).aggs a ≡ Some x → ⊥
    none found = cc

values_given : (s : State) (by fd to : ℕ) (x : Descriptor) → KeepsValues s (fds.given_to s by fd to x) nothing
values_given s by fd to x = cases (by == to)
  where
    cases : (b : Bool)
        → KeepsValues s
        (if b then fds.with_fds s by (placed (fds.freed s by fd) (lowest (fds.freed s by fd)) x) else fds.with_fds
        (fds.opened s to x) by (fds.freed s by fd)) nothing
    cases true = values_fds s by (placed (fds.freed s by fd) (lowest (fds.freed s by fd)) x)
    cases false =
        values_then s (fds.opened s to x) (fds.with_fds (fds.opened s to x) by (fds.freed s by fd)) nothing
        (values_fds s to (placed (domain s to).fds (fds.next_fd s to) x))
        (values_fds (fds.opened s to x) by (fds.freed s by fd))

values_give_fd : (s : State) (by fd to : ℕ) → KeepsValues s (fds.give_fd s by fd to).after nothing
values_give_fd s by fd to = cases (descriptor s by fd)
  where
    cases : (o : Option Descriptor) → KeepsValues s (option_map_or (fds.given_to s by fd to) o s) nothing
    cases None = λ d a x is kept. is
    cases (Some x) = values_given s by fd to x

values_read_on : (s : State) (by fd : ℕ) (from : Option Descriptor) (count : ℕ)
    → KeepsValues s (reading.read_on s by fd from count) nothing
values_read_on s by fd None count = λ d a x is kept. is
values_read_on s by fd (Some (on.File f at mode)) count =
    values_fds s by (slice_set (domain s by).fds fd (Some (on.File f (at + count) mode)))
values_read_on s by fd (Some (on.ReadEnd p)) count =
    values_pipe s p (record (pipe_at s p) { queue = drop count (pipe_at s p).queue })
values_read_on s by fd (Some (on.WriteEnd p)) count = λ d a x is kept. is
values_read_on s by fd (Some (on.Connection c)) count =
    values_conn s c (record (conn_at s c) { incoming = drop count (conn_at s c).incoming })

values_iol_read : (s : State) (by fd n : ℕ) → KeepsValues s (reading.iol_read s by fd n).after nothing
values_iol_read s by fd n =
    let from : Option Descriptor = descriptor s by fd in
    let t : Text = reading.read_text s by from n in
    let read : State = reading.read_on s by fd from (length t) in
    values_then s read (aggs.with_agg read by t) nothing (values_read_on s by fd from (length t))
    (values_with_agg read by t)

values_written : (s : State) (by fd : ℕ) (to : Option Descriptor) (w : Text)
    → KeepsValues s (writing.written s by fd to w) nothing
values_written s by fd None w = λ d a x is kept. is
values_written s by fd (Some (on.File f at mode)) w =
    let bytes : List ℕ = take at (content s f) ++ bytes_of w ++ drop (at + length w) (content s f) in
    let filled : State = with_content s f bytes in
    let moved : List (Option Descriptor) =
    slice_set (domain filled by).fds fd (Some (on.File f (at + length w) mode)) in
    values_then s filled (fds.with_fds filled by moved) nothing (values_content s f bytes) (values_fds filled by moved)
values_written s by fd (Some (on.ReadEnd p)) w = λ d a x is kept. is
values_written s by fd (Some (on.WriteEnd p)) w =
    values_pipe s p (record (pipe_at s p) { queue = (pipe_at s p).queue ++ w })
values_written s by fd (Some (on.Connection c)) w =
    values_conn s c (record (conn_at s c) { outgoing = (conn_at s c).outgoing ++ w })

values_iol_write : (s : State) (by fd a : ℕ) → KeepsValues s (writing.iol_write s by fd a).after nothing
values_iol_write s by fd a =
    let to : Option Descriptor = descriptor s by fd in
    values_written s by fd to (take (writing.fitting s to (length (text s by a))) (text s by a))

values_read : (s : State) (by fd n : ℕ) → KeepsValues s (reading.read s by fd n).after nothing
values_read s by fd n =
    values_read_on s by fd (descriptor s by fd) (length (reading.read_text s by (descriptor s by fd) n))

values_write : (s : State) (by fd : ℕ) (bytes : List ℕ) → KeepsValues s (writing.write s by fd bytes).after nothing
values_write s by fd bytes =
    let to : Option Descriptor = descriptor s by fd in
    values_written s by fd to (labelled (writing.pool_for s by to) (take (writing.fitting s to (length bytes)) bytes))

-- Files.

values_file_new : (s : State) (by : ℕ) (name : List ℕ) (p : ℕ)
    → KeepsValues s (files.file_new s by name p).after nothing
values_file_new s by name p = values_same s (files.file_new s by name p).after refl

values_open_file : (s : State) (by : ℕ) (name : List ℕ) (mode : Mode)
    → KeepsValues s (files.open_file s by name mode).after nothing
values_open_file s by name mode =
    values_fds s by
    (placed (domain s by).fds (fds.next_fd s by) (on.File (unwrap_or (files.file_called s name) 0) 0 mode))

values_seek : (s : State) (by fd at : ℕ) → KeepsValues s (files.seek s by fd at).after nothing
values_seek s by fd at =
    values_fds s by
    (slice_set (domain s by).fds fd (option_map (λ x. on.File x.0 at x.2) (files.open_on (descriptor s by fd))))

values_file_length : (s : State) (by fd : ℕ) → KeepsValues s (files.file_length s by fd).after nothing
values_file_length s by fd = values_same s s refl

values_fsync : (s : State) (by fd : ℕ) → KeepsValues s (files.fsync s by fd).after nothing
values_fsync s by fd = values_same s s refl

values_flush : (s : State) → KeepsValues s (flush s).after nothing
values_flush s = values_same s s refl

values_drop_clean : (s : State) → KeepsValues s (drop_clean s).after nothing
values_drop_clean s = values_same s s refl

-- Pipes.

values_new_pipe : (s : State) (by : ℕ) → KeepsValues s (fds.pipe s by).after nothing
values_new_pipe s by =
    let ends = fds.with_read_end (domain s by).fds (lowest s.pipes) in
    let both = placed ends (lowest ends) (on.WriteEnd (lowest s.pipes)) in
    values_then s (fds.with_fds s by both) (fds.pipe s by).after nothing (values_fds s by both)
    (values_same (fds.with_fds s by both) (fds.pipe s by).after refl)

-- After the calls that rearrange aggregates, and those that close.

abbrev pub both_of : (by a b : ℕ) → Given
both_of by a b d n = (by == d) && ((a == n) || (b == n))

abbrev pub all_of : (by : ℕ) → Given
all_of by d n = by == d

values_agg_dup : (s : State) (by a : ℕ) → KeepsValues s (aggs.agg_dup s by a).after nothing
values_agg_dup s by a = values_with_agg s by (text s by a)

values_agg_cut : (s : State) (by a from to : ℕ) → KeepsValues s (aggs.agg_cut s by a from to).after nothing
values_agg_cut s by a from to = values_with_agg s by (part (text s by a) from to)

values_agg_replace : (s : State) (by a from to b : ℕ) → KeepsValues s (aggs.agg_replace s by a from to b).after nothing
values_agg_replace s by a from to b =
    values_with_agg s by (take from (text s by a) ++ text s by b ++ drop to (text s by a))

values_agg_split : (s : State) (by a at : ℕ) → KeepsValues s (aggs.agg_split s by a at).after (one_of by a)
values_agg_split s by a at =
    let n : ℕ = aggs.next_agg s by in
    let kept : List (ℕ × Text) = without (domain s by).aggs a in
    let made : List (ℕ × Text) = (n, take at (text s by a)) ∷ (n + 1, drop at (text s by a)) ∷ [] in
    values_domain s by (record (domain s by) { aggs = kept ++ made; next_agg = n + 2 }) (one_of by a)
    (λ m x is stays. lookup-append kept made m x (lookup-without (domain s by).aggs a m (differs by a m stays) ∙ is))

differs_both : (by a b n : ℕ) → both_of by a b by n ≡ false → (a ≢ n) × (b ≢ n)
differs_both by a b n stays = (
  λ same. grind (arith, nat_tests, common_steps, stays, same),
  λ same. grind (arith, nat_tests, common_steps, stays, same),
)

values_agg_join : (s : State) (by a b : ℕ) → KeepsValues s (aggs.agg_join s by a b).after (both_of by a b)
values_agg_join s by a b =
    let n : ℕ = aggs.next_agg s by in
    let left : List (ℕ × Text) = without (domain s by).aggs a in
    let kept : List (ℕ × Text) = without left b in
    let made : List (ℕ × Text) = (n, text s by a ++ text s by b) ∷ [] in
    values_domain s by (record (domain s by) { aggs = kept ++ made; next_agg = n + 1 }) (both_of by a b)
    (λ m x is stays. lookup-append kept made m x (lookup-without left b m (differs_both by a b m stays).1
    ∙ lookup-without (domain s by).aggs a m (differs_both by a b m stays).0 ∙ is))

values_agg_give : (s : State) (by a to : ℕ) → KeepsValues s (aggs.agg_give s by a to).after (one_of by a)
values_agg_give s by a to = cases (by == to)
  where
    cases : (b : Bool)
        → KeepsValues s (if b then aggs.with_new s by (without (domain s by).aggs a) (text s by a) else aggs.without_agg
        (aggs.with_agg s to (text s by a)) by a) (one_of by a)
    cases true =
        let kept : List (ℕ × Text) = without (domain s by).aggs a in
        let made : List (ℕ × Text) = ((domain s by).next_agg, text s by a) ∷ [] in
        values_domain s by (record (domain s by) { aggs = kept ++ made; next_agg = (domain s by).next_agg + 1 })
        (one_of by a)
        (λ m x is stays. lookup-append kept made m x (lookup-without (domain s by).aggs a m (differs by a m stays)
        ∙ is))
    cases false =
        let given : State = aggs.with_agg s to (text s by a) in
        values_then s given (aggs.without_agg given by a) (one_of by a) (values_with_agg s to (text s by a))
        (values_without_agg given by a)

values_close : (s : State) (by fd : ℕ) → KeepsValues s (fds.close s by fd).after nothing
values_close s by fd =
    let closed : State = fds.closed_on s (descriptor s by fd) in
    values_then s closed (fds.with_fds closed by (fds.freed s by fd)) nothing (values_closed_on s (descriptor s by fd))
    (values_fds closed by (fds.freed s by fd))

values_exit : (s : State) (by : ℕ) → KeepsValues s (exit s by).after (all_of by)
values_exit s by =
    let closed : State = fold fds.closed_on s (domain s by).fds in
    values_then s closed (with_domain closed by no_domain) (all_of by) (values_all_closed s (domain s by).fds)
    (values_domain closed by no_domain (all_of by) (λ a x is stays. absurd (itself stays)))
  where
    itself : (by == by) ≡ false → ⊥
    itself stays = grind (arith, nat_tests, common_steps, stays)

values_accept : (s : State) (by : ℕ) → KeepsValues s (fds.accept s by).after nothing
values_accept s by =
    let c : ℕ = unwrap_or (fds.waiting s by) 0 in
    let x : Connection = record (conn_at s c) { accepted = true } in
    let taken : State = with_conn s c x in
    values_then s taken (fds.accept s by).after nothing (values_conn s c x)
    (values_fds taken by (placed (domain taken by).fds (fds.next_fd taken by) (on.Connection c)))

-- After every call.

values_called : (s : State) (by : ℕ) (c : Call) → KeepsValues s (called s by c).after (gives_up (event.Call by c))
values_called s by call.DomainNew = values_domain_new s by
values_called s by call.Exit = values_exit s by
values_called s by (call.PoolCreate chunks list) = values_same s (pool_create s by chunks list).after refl
values_called s by (call.PoolClose p) = values_same s (pool_close s by p).after refl
values_called s by (call.PoolAdmit p d) = values_same s (pool_admit s by p d).after refl
values_called s by (call.SetPool p) =
    values_domain s by (record (domain s by) { default = Some p }) nothing (λ a x is kept. is)
values_called s by (call.AggMake bytes) = values_with_agg s by (labelled (aggs.default_pool s by) bytes)
values_called s by (call.AggDup a) = values_agg_dup s by a
values_called s by (call.AggCut a from to) = values_agg_cut s by a from to
values_called s by (call.AggSplit a at) = values_agg_split s by a at
values_called s by (call.AggJoin a b) = values_agg_join s by a b
values_called s by (call.AggReplace a from to b) = values_agg_replace s by a from to b
values_called s by (call.AggDrop a) = values_without_agg s by a
values_called s by (call.AggGive a to) = values_agg_give s by a to
values_called s by (call.Show a) = λ d n x is kept. is
values_called s by (call.FileNew name p) = values_file_new s by name p
values_called s by (call.OpenFile name mode) = values_open_file s by name mode
values_called s by call.Pipe = values_new_pipe s by
values_called s by (call.GiveFd fd to) = values_give_fd s by fd to
values_called s by (call.Close fd) = values_close s by fd
values_called s by (call.Seek fd at) = values_seek s by fd at
values_called s by (call.Length fd) = values_file_length s by fd
values_called s by (call.IolRead fd n) = values_iol_read s by fd n
values_called s by (call.IolWrite fd a) = values_iol_write s by fd a
values_called s by (call.Fsync fd) = values_fsync s by fd
values_called s by (call.Read fd n) = values_read s by fd n
values_called s by (call.Write fd bytes) = values_write s by fd bytes
values_called s by call.Accept = values_accept s by

-- After each step, and after a run in which no event gives the aggregate up.

values_outcome : {A : Type 0} (m : Meaning A) (old new : State) (r : Result A Refusal) (given : Given)
    → KeepsValues old m.after given → Step m old r new → KeepsValues old new given
values_outcome m old new (Ok a) given keeps step = subst (λ s. KeepsValues old s given) (sym step.2) keeps
values_outcome m old new (Err x) given keeps step =
    subst (λ s. KeepsValues old s given) (sym step.1) (λ d a t is kept. is)

pub values_step : (old new : State) (e : Event) (r : Reply) → StepsTo old e r new → ValuesStay old e new
values_step old new (event.Call by c) r step =
    record {
      each =
          values_outcome (called old by c) old new (outcome r) (gives_up (event.Call by c)) (values_called old by c)
          step;
    }
values_step old new (event.ConnNew p) r step =
    record {
      each =
          values_outcome (meaning old (event.ConnNew p)) old new (outcome r) nothing
          (values_same old (conn_new old p).after refl) step;
    }
values_step old new (event.Arrive c bytes) r step =
    record {
      each =
          values_outcome (meaning old (event.Arrive c bytes)) old new (outcome r) nothing (values_conn old c _) step;
    }
values_step old new (event.PeerClosed c how) r step =
    record {
      each =
          values_outcome (meaning old (event.PeerClosed c how)) old new (outcome r) nothing
          (values_conn old c (closed_by (conn_at old c) how)) step;
    }
values_step old new (event.Transmit c max) r step =
    record {
      each =
          values_outcome (meaning old (event.Transmit c max)) old new (outcome r) nothing
          (values_conn old c (record (conn_at old c) { outgoing = drop max (conn_at old c).outgoing })) step;
    }
values_step old new event.Flush r step =
    record { each = values_outcome (meaning old event.Flush) old new (outcome r) nothing (values_flush old) step }
values_step old new event.DropClean r step =
    record {
      each = values_outcome (meaning old event.DropClean) old new (outcome r) nothing (values_drop_clean old)
          step;
    }

pub values_run : (old new : State) (es : List Event) (rs : List Reply) (d a : ℕ) (t : Text) → aggregate old d a ≡ Some t
    → list_any (λ e. gives_up e d a) es ≡ false → Run old es rs new → aggregate new d a ≡ Some t
values_run old new [] [] d a t is kept run = subst (λ s. aggregate s d a ≡ Some t) (sym run) is
values_run old new (e ∷ es) (r ∷ rs) d a t is kept run =
    let here : gives_up e d a ≡ false = grind (arith, nat_tests, common_steps, kept) in
    let later : list_any (λ x. gives_up x d a) es ≡ false = grind (arith, nat_tests, common_steps, kept) in
    values_run run.0 new es rs d a t ((values_step old run.0 e r run.1).each d a t is here) later run.2
values_run old new [] (r ∷ rs) d a t is kept run = absurd run
values_run old new (e ∷ es) [] d a t is kept run = absurd run
