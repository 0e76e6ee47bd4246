-- A client that passes bytes of the world's output to its socket, call by call.
use Rattle.std.proofs.Common.{◌≡◌, ◌∙◌, ℕ, true, false, List, [], ◌++◌, Option, refl, sym, ap, subst, append-nil}
use Rattle.std.specs.Prelude.{◌⊎◌, is_some}
use Rattle.std.specs.Io.KnownBytes.{Appends, Keeps}
use Rattle.iol_system.specs.Machine.{SystemState}
use Rattle.iol_proc.specs.Turns.{TransitionRelation}
use Rattle.iol_proc.specs.World.{WorldState}
use Rattle.iol_sock.specs.Gathers.{IsCalled}
use Rattle.iol_sock.proofs.GatherCalls.{kept}
use Rattle.iol_reactor.specs.Bytes.{IsPassing, unsent_of}
use Rattle.iol_reactor.specs.LinkVisits.{Serving, SlotProceeds}
use Rattle.iol_reactor.specs.Served.{IsFollowed}
use Rattle.iol_reactor.specs.declared.client.Client.{Client}
use Rattle.iol_reactor.specs.declared.client.Phase.TheVariants as phase
use Rattle.iol_reactor.specs.declared.links.Link.{Link}
use Rattle.iol_reactor.specs.declared.service.Frame.{Frame}
use Rattle.iol_reactor.proofs.Bytes.{keeps_same, keeps_then}
use Rattle.iol_reactor.proofs.Served.{sent_at}

module _ {S : Type 0} (supplied : S → Option (List ℕ)) where
  passing_none : (a : Client S) → IsPassing supplied a a
  passing_none a = record {
    came = keeps_same (supplied a.socket);
    unsent = refl;
    phase = refl;
    input = refl;
    last = refl;
    whole = refl;
  }

  passing_then : (a b d : Client S) → IsPassing supplied a b → IsPassing supplied b d → IsPassing supplied a d
  passing_then a b d first next = record {
    came = keeps_then (supplied a.socket) (supplied b.socket) (supplied d.socket) first.came next.came;
    unsent = next.unsent ∙ first.unsent;
    phase = next.phase ∙ first.phase;
    input = next.input ∙ first.input;
    last = next.last ∙ first.last;
    whole = next.whole ∙ first.whole;
  }

  pub all_pass : (a b : Client S)
      → IsCalled (λ (client : Client S) (offered : List ℕ) (taken : ℕ) (after : Client S). IsPassing supplied client
      after) a b → IsPassing supplied a b
  all_pass a b called =
      kept (λ (client : Client S) (offered : List ℕ) (taken : ℕ) (after : Client S). IsPassing supplied client after)
      (IsPassing supplied) passing_none passing_then (λ c offered taken d is. is) a b called

module _ {P : Type 0} (turns : TransitionRelation P) (starts : WorldState SystemState P → Type 0) (frames : List ℕ
    → Frame
    → Type 0) (pool : ℕ) {S : Type 0} (gives takes : S → Option (List ℕ)) where
  -- the socket of a client accepted all of the world's output that it was offered
  pub passed_at : (s after : Serving P) (o p : Option Link) (sent : List ℕ) (c m d n : Client S)
      → (c.phase ≡ phase.Answering) ⊎ (c.phase ≡ phase.Leaving) → is_some o ≡ true → unsent_of c.output ≡ []
      → unsent_of m.output ≡ unsent_of c.output → m.socket ≡ c.socket → m.phase ≡ c.phase → m.input ≡ c.input
      → m.is_last ≡ c.is_last → m.is_whole ≡ c.is_whole
      → SlotProceeds turns starts pool o [] sent false s after → p ≡ o
      → IsCalled (λ (client : Client S) (offered : List ℕ) (taken : ℕ) (next : Client S). IsPassing gives client next)
      m d → Appends (takes m.socket) (takes d.socket) sent
      → n.output ≡ d.output → n.socket ≡ d.socket → n.phase ≡ d.phase → n.input ≡ d.input → n.is_last ≡ d.is_last
      → n.is_whole ≡ d.is_whole → IsFollowed turns starts frames pool gives takes s o c
      → IsFollowed turns starts frames pool gives takes after p n
  passed_at s after o p sent c m d n is some none unsent socket kind input last whole goes same called took output
      after_socket after_kind after_input after_last after_whole h =
      let pass : IsPassing gives m d = all_pass gives m d called in
      let empty : unsent_of n.output ≡ [] = ap (λ k. unsent_of k) output ∙ (pass.unsent ∙ (unsent ∙ none)) in
      sent_at turns starts frames pool gives takes s after o p sent c m n is some none unsent socket kind input last
      whole goes same
      (record {
        accepted = sent;
        taken = subst (λ k. Appends (takes m.socket) (takes k) sent) (sym after_socket) took;
        left = sym (append-nil sent) ∙ ap (λ (l : List ℕ). sent ++ l) (sym empty);
      })
      (subst (λ k. Keeps (gives m.socket) (gives k)) (sym after_socket) pass.came)
      (after_kind ∙ pass.phase) (after_input ∙ pass.input) (after_last ∙ pass.last) (after_whole ∙ pass.whole) h
