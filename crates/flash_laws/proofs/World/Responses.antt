-- The answer to a stream, request by request, where scripts may run.
use Rattle.std.proofs.Common.{inl, inr, ◌≡◌, ℕ, ◌+◌, List, [], ◌∷◌, ◌++◌, take, drop, ap, ◌∙◌, refl, sym, subst}
use Rattle.std.proofs.Common.{append_assoc, append-nil}
use Rattle.std.proofs.lemmas.List.{take-append-drop}
use Rattle.iol_core.specs.Text.{Text, bytes_of}
use Rattle.iol_core.specs.State.{Connection}
use Rattle.flash_http.specs.Window.{window_in}
use Rattle.flash_http.specs.Request.{Answer, serve, Wanted}
use Rattle.flash_laws.specs.Answers.{Reads}
use Rattle.flash_laws.specs.Client.{Client}
use Rattle.flash_laws.specs.Client.Fits.{Answers, Finished, ConsistencyAlone, ConsistencyRun, is_at_rest, given_of}
use Rattle.flash_laws.specs.Conn.Fits.{asked}
use Rattle.flash_laws.specs.Conn.OfferedBytes.{taken_of}
use Rattle.flash_laws.specs.Run.Fits.{Progress}
use Rattle.flash_laws.specs.Run.OfferedBytes.{past_of, taken_by}
use Rattle.std.specs.List.{concat}
use Rattle.flash_laws.specs.SiteContents.{SiteContents, MayBeExpected, AllMayBeExpected, Responds, Begins, IsAnswer}
use Rattle.flash_laws.specs.declared.phase.Phase.{Phase}
use Rattle.flash_laws.specs.declared.phase.Phase.TheVariants.{Receiving, DroppingInput}
use Rattle.flash_laws.specs.declared.script_run.Running.{Running}
use Rattle.flash_laws.proofs.Conn.Responses.{WindowLaws, order-all, order-more, reads-append}

both-expected : (site_contents : SiteContents) (qs : List Answer) (q : Answer) (rs : List (List ℕ)) (r : List ℕ)
    → AllMayBeExpected site_contents qs rs → MayBeExpected site_contents q r
    → AllMayBeExpected site_contents (qs ++ q ∷ []) (rs ++ r ∷ [])
both-expected site_contents [] q [] r all may = (may, tt)
both-expected site_contents (p ∷ qs) q (s ∷ rs) r all may = (all.0, both-expected site_contents qs q rs r all.1 may)
both-expected site_contents [] q (s ∷ rs) r all may = absurd all
both-expected site_contents (p ∷ qs) q [] r all may = absurd all

concat-more : (rs : List (List ℕ)) (r : List ℕ) → concat (rs ++ r ∷ []) ≡ concat rs ++ r
concat-more [] r = append-nil r
concat-more (s ∷ rs) r = ap (λ (l : List ℕ). s ++ l) (concat-more rs r) ∙ sym (append_assoc s (concat rs) r)

-- one more request is answered
pub responds-more : (site_contents : SiteContents) (qs : List Answer) (q : Answer) (bytes r : List ℕ)
    → Responds site_contents qs bytes → MayBeExpected site_contents q r
    → Responds site_contents (qs ++ q ∷ []) (bytes ++ r)
responds-more site_contents qs q bytes r is may = record {
  responses = is.responses ++ r ∷ [];
  each = both-expected site_contents qs q is.responses r is.each may;
  all = ap (λ (l : List ℕ). l ++ r) is.all ∙ sym (concat-more is.responses r);
}

pub responds-none : (site_contents : SiteContents) → Responds site_contents [] []
responds-none site_contents = record { responses = []; each = tt; all = refl }

pub begins-none : (site_contents : SiteContents) (s : List ℕ) → Begins site_contents s []
begins-none site_contents s = record {
  qs = [];
  rest = s;
  reads = refl;
  order = refl;
  whole = [];
  responds = responds-none site_contents;
  more = [];
  all = refl;
}

pub begins-less : (site_contents : SiteContents) (s xs ys : List ℕ) → Begins site_contents s (xs ++ ys)
    → Begins site_contents s xs
begins-less site_contents s xs ys b = record {
  qs = b.qs;
  rest = b.rest;
  reads = b.reads;
  order = b.order;
  whole = b.whole;
  responds = b.responds;
  more = ys ++ b.more;
  all = b.all ∙ append_assoc xs ys b.more;
}

-- the output that begins the answer to a stream begins the answer to each longer stream
module _ (laws : WindowLaws) where
  pub begins-append : (site_contents : SiteContents) (s t xs : List ℕ) → Begins site_contents s xs
      → Begins site_contents (s ++ t) xs
  begins-append site_contents s t xs b =
      record {
        qs = b.qs;
        rest = b.rest ++ t;
        reads = reads-append laws s t b.qs b.rest b.reads;
        order = b.order;
        whole = b.whole;
        responds = b.responds;
        more = b.more;
        all = b.all;
      }

  -- the output of a finished connection is the answer to all bytes received
  pub finished-whole : (site_contents : SiteContents) (k : Connection) (took out : List ℕ)
      → Finished site_contents k took out
      → IsAnswer site_contents (took ++ bytes_of k.incoming) out
  finished-whole site_contents k took out f = record {
    qs = f.qs;
    rest = f.rest ++ bytes_of k.incoming;
    reads = reads-append laws took (bytes_of k.incoming) f.qs f.rest f.reads;
    order = f.order;
    responds = f.responds;
    no_more = (elim f.no_more [
      | inl closes ↦ inr closes
      | inr ends ↦
          inl (ap (λ (t : Text). window_in (f.rest ++ bytes_of t)) ends.1
          ∙ (ap (λ (l : List ℕ). window_in l) (append-nil f.rest) ∙ ends.0))
    ]);
  }

-- the output up to a part of a response begins the answer to the bytes read
module _ (site_contents : SiteContents) (took out buffered : List ℕ) (q : Answer) (expected : List ℕ)
    (may : MayBeExpected site_contents q expected) where
  pub begins-resting : Answers site_contents took out buffered [] [] → Begins site_contents took out
  begins-resting o = record {
    qs = o.done;
    rest = buffered;
    reads = subst (λ (l : List Answer). Reads took l buffered) (append-nil o.done) o.reads;
    order = order-all o.done o.open_yet;
    whole = o.before;
    responds = o.responds;
    more = [];
    all = sym (append-nil o.before) ∙ (sym o.out_is ∙ sym (append-nil out));
  }

  pub begins-part : (taken : ℕ) → Answers site_contents took out buffered (q ∷ []) (take taken expected)
      → Begins site_contents took out
  begins-part taken o = record {
    qs = o.done ++ q ∷ [];
    rest = buffered;
    reads = o.reads;
    order = order-more o.done q o.open_yet;
    whole = o.before ++ expected;
    responds = responds-more site_contents o.done q o.before expected o.responds may;
    more = drop taken expected;
    all = ap (λ (l : List ℕ). o.before ++ l) (sym (take-append-drop taken expected))
        ∙ (sym (append_assoc o.before (take taken expected) (drop taken expected))
        ∙ ap (λ (l : List ℕ). l ++ drop taken expected) (sym o.out_is));
  }

  pub begins-answers : (d : Phase)
      → Answers site_contents took out buffered (asked q d) (given_of expected (is_at_rest d) (taken_of d))
      → Begins site_contents took out
  begins-answers Receiving o = begins-resting o
  begins-answers (DroppingInput a) o = begins-resting o
  begins-answers d o = begins-part (taken_of d) o

-- the same for a client for which no script runs
pub begins-consistency : (site_contents : SiteContents) (k : Connection) (took sent : List ℕ) (x : Client)
    (expected : List ℕ) → MayBeExpected site_contents x.conn.request expected
    → ConsistencyAlone site_contents expected k took sent x
    → Begins site_contents took (sent ++ bytes_of k.outgoing)
begins-consistency site_contents k took sent x expected may (inl owes) =
    begins-answers site_contents took (sent ++ bytes_of k.outgoing) x.conn.buffered x.conn.request expected may
    x.conn.phase
    owes.1
begins-consistency site_contents k took sent x expected may (inr (inl finished)) = finished.begins
begins-consistency site_contents k took sent x expected may (inr (inr gone)) = gone.begins

-- the same for a client for which a script runs
pub begins-run : (site_contents : SiteContents) (k : Connection) (took sent buffered : List ℕ) (w : Wanted)
    (expected : List ℕ) → MayBeExpected site_contents (serve w) expected
    → (o : Progress) (y : Running) → ConsistencyRun site_contents expected k took sent buffered w o y
    → Begins site_contents took (sent ++ bytes_of k.outgoing)
begins-run site_contents k took sent buffered w expected may o y (inl g) =
    begins-part site_contents took (sent ++ bytes_of k.outgoing) buffered (serve w) expected may
    (past_of o + taken_by y)
    g.answers
begins-run site_contents k took sent buffered w expected may o y (inr l) = l.begins
