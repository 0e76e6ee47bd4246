-- Answers to heads: examples in which the target is not interpreted.
use Rattle.std.proofs.Common.{◌≡◌, ℕ, List, [], ◌∷◌, true, false, Some, None, refl}
use Rattle.std.specs.Prelude.{codes}
use Rattle.httparse.specs.Grammar.{trim_ows}
use Rattle.flash_http.specs.declared.requests.Part.TheVariants.{Final}
use Rattle.flash_http.specs.Fields.{Field}
use Rattle.flash_http.specs.Request.{Reading, serve, refuse, refusal, range_of, served}

-- a head of HTTP/1.1 with a host and these fields
abbrev head : (method : List ℕ) → List Field → Reading
head method fields =
    record { method = method; target = codes "/f"; minor = 1; fields = (codes "Host", codes "a") ∷ fields }

fine : refusal (head (codes "GET") []) ≡ None
fine = refl

no_host : refusal (record (head (codes "HEAD") []) { fields = [] }) ≡ Some (refuse 400 true true)
no_host = refl

no_host_in_1_0 : refusal (record (head (codes "GET") []) { minor = 0; fields = [] }) ≡ None
no_host_in_1_0 = refl

-- content is refused before the method
content : refusal (head (codes "POST") ((codes "Content-Length", codes "5") ∷ [])) ≡ Some (refuse 400 false true)
content = refl

other_method : refusal (head (codes "POST") []) ≡ Some (refuse 405 false false)
other_method = refl

no_method : refusal (head (codes "BREW") ((codes "Connection", codes "close") ∷ [])) ≡ Some (refuse 501 false true)
unfolding trim_ows
no_method = refl

range_of_a_file : range_of (head (codes "GET") ((codes "Range", codes "bytes=-2") ∷ [])) (codes "f") ≡ Some (Final 2)
range_of_a_file = refl

range_of_a_script : range_of (head (codes "GET") ((codes "Range", codes "bytes=-2") ∷ [])) (codes "f.cgi") ≡ None
range_of_a_script = refl

range_of_a_head_alone : range_of (head (codes "HEAD") ((codes "Range", codes "bytes=-2") ∷ [])) (codes "f") ≡ None
range_of_a_head_alone = refl

served_file : served (head (codes "GET") []) (Some (codes "f", codes "q=1"))
    ≡ serve (record {
      head_only = false;
      name = codes "f";
      query = codes "q=1";
      keep = true;
      range = None;
      chunked =
          true;
    })
served_file = refl

no_file : served (head (codes "HEAD") []) None ≡ refuse 400 true true
no_file = refl
