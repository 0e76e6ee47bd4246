-- The answer after a stream of whole requests is that of the remaining stream by itself.
use Rattle.std.proofs.Common.{inl, inr, ◌≡◌, ◌⊎◌, ◌∙◌, ℕ, true, false, List, [], ◌∷◌, ◌++◌, ap, refl, sym, subst}
use Rattle.std.proofs.Common.{append_assoc}
use Rattle.std.specs.List.{concat, list_all}
use Rattle.std.proofs.lemmas.Bool.{and_from, and_parts}
use Rattle.std.proofs.lemmas.List.Folds.{concat-append, list_all-append}
use Rattle.flash_http.specs.declared.windows.Window.TheVariants.{Wait}
use Rattle.flash_http.specs.Request.{Answer}
use Rattle.flash_http.specs.Window.{window_in}
use Rattle.flash_laws.specs.Answers.{keeps, Reads, last_may_close, last_closes}
use Rattle.flash_laws.specs.SiteContents.{AllMayBeExpected, Begins, IsAnswer, Responds, SiteContents}
use Rattle.flash_laws.proofs.Conn.Responses.{WindowLaws, order-all, reads-append}
use Rattle.flash_streams.specs.Follow.{IsAnsweredWhole, StreamsFollow}

reads_then : (s : List ℕ) (qs : List Answer) (mid : List ℕ) (ps : List Answer) (rest : List ℕ) → Reads s qs mid
    → Reads mid ps rest → Reads s (qs ++ ps) rest
reads_then s [] mid ps rest is next = subst (λ (l : List ℕ). Reads l ps rest) is next
reads_then s (q ∷ qs) mid ps rest is next = (is.0, is.1, reads_then is.0 qs mid ps rest is.2 next)

order_then : (qs ps : List Answer) → list_all (λ q. keeps q) qs ≡ true → last_may_close ps ≡ true
    → last_may_close (qs ++ ps) ≡ true
order_then [] ps keep order = order
order_then (q ∷ []) [] keep order = refl
order_then (q ∷ []) (p ∷ ps) keep order = let both = and_parts (keeps q) true keep in
    and_from (keeps q) (last_may_close (p ∷ ps)) both.0 order
order_then (q ∷ r ∷ qs) ps keep order =
    let both = and_parts (keeps q) (list_all (λ p. keeps p) (r ∷ qs)) keep in
    and_from (keeps q) (last_may_close (r ∷ (qs ++ ps))) both.0 (order_then (r ∷ qs) ps both.1 order)

-- if the following stream has a request, its last request is the last of all
closes_then : (qs : List Answer) (p : Answer) (ps : List Answer) → last_closes (p ∷ ps) ≡ true
    → last_closes (qs ++ p ∷ ps) ≡ true
closes_then [] p ps last = last
closes_then (q ∷ []) p ps last = last
closes_then (q ∷ r ∷ qs) p ps last = closes_then (r ∷ qs) p ps last

ends_then : (qs ps : List Answer) (rest : List ℕ) → (window_in rest ≡ Wait) ⊎ (last_closes ps ≡ true)
    → (window_in rest ≡ Wait) ⊎ (last_closes (qs ++ ps) ≡ true)
ends_then qs ps rest (inl waits) = inl waits
ends_then qs [] rest (inr last) = absurd (let no : false ≡ true = last in cc no)
ends_then qs (p ∷ ps) rest (inr last) = inr (closes_then qs p ps last)

module _ (site_contents : SiteContents) where
  expected_then : (qs ps : List Answer) (rs ss : List (List ℕ)) → AllMayBeExpected site_contents qs rs
      → AllMayBeExpected site_contents ps ss → AllMayBeExpected site_contents (qs ++ ps) (rs ++ ss)
  expected_then [] ps [] ss is next = next
  expected_then (q ∷ qs) ps (r ∷ rs) ss is next = (is.0, expected_then qs ps rs ss is.1 next)
  expected_then [] ps (r ∷ rs) ss is next = absurd is
  expected_then (q ∷ qs) ps [] ss is next = absurd is

  responds_then : (qs ps : List Answer) (first next : List ℕ) → Responds site_contents qs first
      → Responds site_contents ps next → Responds site_contents (qs ++ ps) (first ++ next)
  responds_then qs ps first next a b = record {
    responses = a.responses ++ b.responses;
    each = expected_then qs ps a.responses b.responses a.each b.each;
    all = ap (λ (l : List ℕ). l ++ next) a.all
        ∙ (ap (λ (l : List ℕ). concat a.responses ++ l) b.all ∙ sym (concat-append a.responses b.responses));
  }

module _ (laws : WindowLaws) (site_contents : SiteContents) (a b first next : List ℕ)
    (whole : IsAnsweredWhole site_contents a first) where
  reads_both : (ps : List Answer) (rest : List ℕ) → Reads b ps rest → Reads (a ++ b) (whole.qs ++ ps) rest
  reads_both ps rest is = reads_then (a ++ b) whole.qs b ps rest (reads-append laws a b whole.qs [] whole.reads) is

  answer_then : IsAnswer site_contents b next → IsAnswer site_contents (a ++ b) (first ++ next)
  answer_then is = record {
    qs = whole.qs ++ is.qs;
    rest = is.rest;
    reads = reads_both is.qs is.rest is.reads;
    order = order_then whole.qs is.qs whole.keep is.order;
    responds = responds_then site_contents whole.qs is.qs first next whole.responds is.responds;
    no_more = ends_then whole.qs is.qs is.rest is.no_more;
  }

  begins_then : Begins site_contents b next → Begins site_contents (a ++ b) (first ++ next)
  begins_then is = record {
    qs = whole.qs ++ is.qs;
    rest = is.rest;
    reads = reads_both is.qs is.rest is.reads;
    order = order_then whole.qs is.qs whole.keep is.order;
    whole = first ++ is.whole;
    responds = responds_then site_contents whole.qs is.qs first is.whole whole.responds is.responds;
    more = is.more;
    all = ap (λ (l : List ℕ). first ++ l) is.all ∙ sym (append_assoc first next is.more);
  }

  whole_then : IsAnsweredWhole site_contents b next → IsAnsweredWhole site_contents (a ++ b) (first ++ next)
  whole_then is = record {
    qs = whole.qs ++ is.qs;
    reads = reads_both is.qs [] is.reads;
    keep = list_all-append (λ q. keeps q) whole.qs is.qs
        ∙ and_from (list_all (λ q. keeps q) whole.qs) (list_all (λ q. keeps q) is.qs) whole.keep is.keep;
    responds = responds_then site_contents whole.qs is.qs first next whole.responds is.responds;
  }

-- no bytes: their window waits
none_waits : window_in [] ≡ Wait
none_waits = refl

is_answer : (site_contents : SiteContents) (a first : List ℕ) → IsAnsweredWhole site_contents a first
    → IsAnswer site_contents a first
is_answer site_contents a first whole = record {
  qs = whole.qs;
  rest = [];
  reads = whole.reads;
  order = order-all whole.qs whole.keep;
  responds = whole.responds;
  no_more = inl none_waits;
}

pub follow : WindowLaws → StreamsFollow
follow laws = record {
  answer = λ site_contents a b first next whole is. answer_then laws site_contents a b first next whole is;
  begins = λ site_contents a b first next whole is. begins_then laws site_contents a b first next whole is;
  whole = λ site_contents a b first next whole is. whole_then laws site_contents a b first next whole is;
  is = λ site_contents a first whole. is_answer site_contents a first whole;
}
