-- The body of a response for a script: no output, a whole chunk, and more than one.
use Rattle.std.proofs.Common.{◌≡◌, ℕ, true, false, List, [], ◌++◌, refl}
use Rattle.std.specs.Prelude.{codes, replicate}
use Rattle.std.specs.Fmt.{digits}
use Rattle.flash_laws.specs.Answers.Scripts.{script_body}

-- n bytes
abbrev some : ℕ → List ℕ
some n = replicate n 97

no_output : script_body true [] ≡ codes "0\r\n\r\n"
no_output = refl

one_chunk : script_body true (some 4096) ≡ codes "1000\r\n" ++ (some 4096 ++ codes "\r\n0\r\n\r\n")
unfolding digits
one_chunk = refl

a_chunk_and_more : script_body true (some 5000) ≡ codes "1000\r\n"
    ++ (some 4096 ++ (codes "\r\n388\r\n" ++ (some 904 ++ codes "\r\n0\r\n\r\n")))
unfolding digits
a_chunk_and_more = refl

-- without chunks only the bytes
plain : script_body false (some 5000) ≡ some 5000
plain = refl
