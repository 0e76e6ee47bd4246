-- Fields: examples.
use Rattle.std.proofs.Common.{◌≡◌, List, [], ◌∷◌, true, false, Some, None, refl}
use Rattle.std.specs.Prelude.{codes}
use Rattle.httparse.specs.Grammar.{trim_ows}
use Rattle.flash_http.specs.Fields.{Field, values_of, has_one_host, has_content, names_close, one_range}
use Rattle.flash_http.specs.Fields.{is_served_method, is_known_method}

abbrev fields : List Field
fields = (codes "Host", codes "a:80") ∷ (codes "RANGE", codes "bytes=0-1") ∷ (codes "Content-Length", codes "0") ∷ []

in_any_case : values_of (codes "range") fields ≡ codes "bytes=0-1" ∷ []
in_any_case = refl

one_host : has_one_host fields ≡ true
one_host = refl

two_hosts : has_one_host ((codes "host", codes "a:80") ∷ fields) ≡ false
two_hosts = refl

host_with_user : has_one_host ((codes "Host", codes "me@a") ∷ []) ≡ false
host_with_user = refl

no_content : has_content fields ≡ false
no_content = refl

content_in_chunks : has_content ((codes "Transfer-Encoding", codes "chunked") ∷ fields) ≡ true
content_in_chunks = refl

close_among_options : names_close (codes "keep-alive, \tClose ,x") ≡ true
unfolding trim_ows
close_among_options = refl

only_range : one_range fields ≡ Some (codes "bytes=0-1")
only_range = refl

range_with_condition : one_range ((codes "If-Range", codes "W") ∷ fields) ≡ None
range_with_condition = refl

case_of_methods : is_served_method (codes "get") ≡ false
case_of_methods = refl

known_method : is_known_method (codes "PATCH") ≡ true
known_method = refl
