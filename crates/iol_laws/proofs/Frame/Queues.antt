-- A property of a pipe's unread bytes holds after each event if it holds for no bytes, for each rest of them, and with
-- the bytes written.
use Rattle.std.proofs.Common.{inl, inr, ◌≡◌, ℕ, [], ◌++◌, length, take, drop, refl, sym, subst, arith, Option, Some}
use Rattle.std.proofs.Common.{true, false, Bool}
use Rattle.std.specs.List.{list_any}
use Rattle.std.proofs.lemmas.Bool.{cases_eq}
use Rattle.std.proofs.lemmas.Bool.Decides.{nat_tests}
use Rattle.iol_core.specs.Text.{Text, labelled}
use Rattle.iol_core.specs.NumberedLists.{lowest}
use Rattle.iol_core.specs.State.{State, Pipe, text, descriptor, pipe_at, with_domain, with_pipe, with_conn}
use Rattle.iol_core.specs.State.{with_content}
use Rattle.iol_core.specs.Run.{meaning}
use Rattle.iol_core.specs.Calls.Writes as writing
use Rattle.iol_core.specs.declared.descriptors.Descriptor.{Descriptor}
use Rattle.iol_core.specs.declared.descriptors.Descriptor.TheVariants as on
use Rattle.iol_core.specs.declared.events.Call.TheVariants as call
use Rattle.iol_core.specs.declared.events.Event.{Event}
use Rattle.iol_core.specs.declared.events.Event.TheVariants as event
use Rattle.iol_laws.specs.Sources.{is_write_end}
use Rattle.iol_laws.proofs.Changes.{Act, Change, OnPipe, OnConn, NewPipe, Takes, Puts, EndsReads, EndsWrites, IsUsed}
use Rattle.iol_laws.proofs.Changes.{Reads, Writes, changed, is_write, kept_unwritten, none_handed, used_as}
use Rattle.iol_laws.proofs.Frame.Pipes.{pipes_pipe, pipes_same}
use Rattle.iol_laws.proofs.Order.Ends.{pipe-either, pipe-other, pipe-there}

-- whether a change adds bytes to a queue
abbrev pub adds : Change → Bool
adds (OnPipe p (Puts w)) = true
adds (OnConn c (IsUsed (Writes w))) = true
adds c = false

pub none_added : (s : State) (by fd : ℕ) (o : Option Descriptor) (act : Act) → is_write act ≡ false
    → list_any adds (used_as s by fd o act) ≡ false
none_added s by fd (Some (on.File f at mode)) (Reads n) un = refl
none_added s by fd o (Writes w) un = absurd (cc)
none_added s by fd o act un = refl

module _ (L : Text → Type 0) (nothing : L []) (rest : (n : ℕ) (q : Text) → L q → L (drop n q)) (p : ℕ) where
  abbrev pub InQueue : State → Type 0
  InQueue s = L (pipe_at s p).queue

  queue-same : (s t : State) → pipe_at t p ≡ pipe_at s p → InQueue s → InQueue t
  queue-same s t same was = subst (λ (x : Pipe). L x.queue) (sym same) was

  queue-pipe : (s : State) (q : ℕ) (x : Pipe) → (q ≡ p → L x.queue) → InQueue s → InQueue (with_pipe s q x)
  queue-pipe s q x new was = elim (cases_eq q p) [
    | inr differ ↦ queue-same s _ (pipes_pipe s q x p differ) was
    | inl same ↦ subst (λ n. L (pipe_at (with_pipe s q x) n).queue) same (elim (pipe-either s q x) [
      | inl there ↦ subst (λ (y : Pipe). L y.queue) (sym there) (new same)
      | inr none ↦ subst (λ (y : Pipe). L y.queue) (sym none) nothing
    ])
  ]

  -- the same for an equal number of the pipe
  of_it : (s : State) (q : ℕ) → InQueue s → q ≡ p → L (pipe_at s q).queue
  of_it s q was same = subst (λ n. L (pipe_at s n).queue) (sym same) was

  queue_changed : (s : State) (c : Change) → adds c ≡ false → InQueue s → InQueue (changed s c)
  unfolding with_domain with_conn with_content
  queue_changed s (OnPipe q (Takes n)) un was =
      queue-pipe s q _ (λ same. rest n (pipe_at s q).queue (of_it s q was same)) was
  queue_changed s (OnPipe q (Puts w)) un was = absurd (cc)
  queue_changed s (OnPipe q EndsReads) un was = queue-pipe s q _ (λ same. nothing) was
  queue_changed s (OnPipe q EndsWrites) un was = queue-pipe s q _ (λ same. of_it s q was same) was
  queue_changed s NewPipe un was = elim (cases_eq (lowest s.pipes) p) [
    | inr differ ↦ queue-same s _ (pipe-other s p differ) was
    | inl same ↦
        subst (λ n. L (pipe_at (changed s NewPipe) n).queue) same
        (subst (λ (x : Pipe). L x.queue) (sym (pipe-there s)) nothing)
  ]
  queue_changed s c un was = queue-same s (changed s c) (pipes_same s (changed s c) (λ q. false) refl p refl) was

  queue_written : (s : State) (by fd : ℕ) (o : Option Descriptor) (w : Text)
      → (is_write_end p o ≡ true → L ((pipe_at s p).queue ++ w)) → InQueue s → InQueue (writing.written s by fd o w)
  unfolding with_domain with_conn with_content
  queue_written s by fd (Some (on.File f at mode)) w new was =
      queue-same s (writing.written s by fd (Some (on.File f at mode)) w)
      (pipes_same s (writing.written s by fd (Some (on.File f at mode)) w) (λ q. false) refl p refl) was
  queue_written s by fd (Some (on.WriteEnd q)) w new was =
      queue-pipe s q _
      (λ same. subst (λ n. L ((pipe_at s n).queue ++ w)) (sym same) (new (grind (arith, nat_tests, same)))) was
  queue_written s by fd (Some (on.Connection c)) w new was =
      queue-same s (writing.written s by fd (Some (on.Connection c)) w)
      (pipes_same s (writing.written s by fd (Some (on.Connection c)) w) (λ q. false) refl p refl) was
  queue_written s by fd o w new was = was

  -- the property holds with the bytes that the event writes to the pipe
  abbrev pub HoldsWith : State → Event → Type 0
  HoldsWith s (event.Call by (call.IolWrite fd a)) =
      is_write_end p (descriptor s by fd) ≡ true
      → L ((pipe_at s p).queue ++ take (writing.fitting s (descriptor s by fd) (length (text s by a)))
      (text s by a))
  HoldsWith s (event.Call by (call.Write fd bytes)) =
      is_write_end p (descriptor s by fd) ≡ true
      → L ((pipe_at s p).queue ++ labelled (writing.pool_for s by (descriptor s by fd))
      (take (writing.fitting s (descriptor s by fd) (length bytes)) bytes))
  HoldsWith s e = Unit {0}

  pub queue_meant : (s : State) (e : Event) → HoldsWith s e → InQueue s → InQueue (meaning s e).after
  unfolding with_conn
  queue_meant s (event.Call by (call.IolWrite fd a)) new was = queue_written s by fd (descriptor s by fd) _ new was
  queue_meant s (event.Call by (call.Write fd bytes)) new was = queue_written s by fd (descriptor s by fd) _ new was
  queue_meant s (event.Call by (call.GiveFd fd to)) new was =
      kept_unwritten InQueue adds queue_changed none_added s by (call.GiveFd fd to) refl
      (none_handed adds by fd to (descriptor s by fd) refl (λ x. refl)) was
  queue_meant s (event.Call by k) new was = kept_unwritten InQueue adds queue_changed none_added s by k refl refl was
  queue_meant s e new was = queue-same s (meaning s e).after (pipes_same s (meaning s e).after (λ q. false) refl p refl)
      was
