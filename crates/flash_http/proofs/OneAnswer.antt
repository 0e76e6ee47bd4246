-- A head has one answer, since parses of a head and of a target are unique.
use Rattle.std.proofs.Common.{◌≡◌, ℕ, List, [], Option, Some, None, refl, sym, ap, ◌∙◌}
use Rattle.std.specs.Prelude.{MatchOption, unwrap_or}
use Rattle.httparse.proofs.GrammarLemmas.{request_unique}
use Rattle.flash_http.proofs.TargetLemmas.{same_path, same_query}
use Rattle.flash_http.specs.Target.{Names, TargetIs, file_name}
use Rattle.flash_http.specs.Request.{Answer, Reading, reading_of, Reads, served, refusal, Asks, OneAnswer}

one_reading : (bytes : List ℕ) (r q : Option Reading) → Reads bytes r → Reads bytes q → r ≡ q
one_reading bytes None None a b = refl
one_reading bytes None (Some q) a b = absurd (a b.0 b.1)
one_reading bytes (Some r) None a b = absurd (b a.0 a.1)
one_reading bytes (Some r) (Some q) a b =
    let same = request_unique bytes a.0 b.0 [] [] a.1.0 b.1.0 in
    ap (λ x. Some x) (a.2 ∙ ap reading_of same.0 ∙ sym b.2)

one_name : (target name query other more : List ℕ) → Names target name query → Names target other more
    → (name ≡ other) × (query ≡ more)
one_name target name query other more a b = (
  a.is_name ∙ ap (λ p. file_name p) (same_path target a.uri b.uri a.is_uri.spells b.is_uri.spells) ∙ sym b.is_name,
  a.is_query ∙ ap (λ q. unwrap_or q []) (same_query target a.uri b.uri a.is_uri.spells b.is_uri.spells)
      ∙ sym b.is_query,
)

one_file : (target : List ℕ) (f g : Option (List ℕ × List ℕ)) → TargetIs target f → TargetIs target g → f ≡ g
one_file target None None a b = refl
one_file target None (Some g) a b = absurd (a g.0 g.1 b)
one_file target (Some f) None a b = absurd (b f.0 f.1 a)
one_file target (Some f) (Some g) a b =
    let same = one_name target f.0 f.1 g.0 g.1 a b in
    let first : (f.0, f.1) ≡ (g.0, f.1) = ap (λ n. (n, f.1)) same.0 in
    let second : (g.0, f.1) ≡ (g.0, g.1) = ap (λ q. (g.0, q)) same.1 in
    ap (λ x. Some x) (first ∙ second)

one_of : (r : Reading) (o : Option Answer) (a b : Answer)
    → MatchOption o ((file : Option (List ℕ × List ℕ)) × TargetIs r.target file × (a ≡ served r file))
    (λ refused. a ≡ refused)
    → MatchOption o ((file : Option (List ℕ × List ℕ)) × TargetIs r.target file × (b ≡ served r file))
    (λ refused. b ≡ refused)
    → a ≡ b
one_of r None a b h g = h.2 ∙ ap (served r) (one_file r.target h.0 g.0 h.1 g.1) ∙ sym g.2
one_of r (Some refused) a b h g = h ∙ sym g

one_by_reading : (r : Option Reading) (a b : Answer) → Asks r a → Asks r b → a ≡ b
one_by_reading None a b h g = h ∙ sym g
one_by_reading (Some r) a b h g = one_of r (refusal r) a b h g

pub one_answer : OneAnswer
one_answer bytes a b h g = one_by_reading g.0 a b (rw (one_reading bytes h.0 g.0 h.1 g.1) at h.2) g.2
