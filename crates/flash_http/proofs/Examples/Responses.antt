-- The heads of responses: examples.
use Rattle.std.proofs.Common.{◌≡◌, true, false, refl}
use Rattle.std.specs.Prelude.{codes}
use Rattle.std.specs.Fmt.{digits}
use Rattle.flash_http.specs.Response.{head_text, file_head, refusal_head, script_head, error_body, allow_line}
use Rattle.flash_http.specs.Response.{connection_line}
use Rattle.flash_http.specs.declared.names.MediaType.TheVariants.{Html, OctetStream}
use Rattle.flash_http.specs.declared.ranges.Selection.TheVariants.{Whole, Bytes, Unsatisfiable}

whole_file : head_text (file_head Html Whole 3 true)
    ≡ codes "HTTP/1.1 200 OK\r\nContent-Type: text/html\r\nContent-Length: 3\r\nConnection: close\r\n\r\n"
unfolding digits allow_line connection_line
whole_file = refl

part_of_a_file : head_text (file_head OctetStream (Bytes 4 5) 6 false)
    ≡ codes
    "HTTP/1.1 206 Partial Content\r\nContent-Type: application/octet-stream\r\nContent-Length: 2\r\nContent-Range: bytes 4-5/6\r\n\r\n"
unfolding digits allow_line connection_line
part_of_a_file = refl

nothing_of_a_file : head_text (file_head Html Unsatisfiable 6 false)
    ≡ codes
    "HTTP/1.1 416 Range Not Satisfiable\r\nContent-Type: text/plain\r\nContent-Length: 26\r\nContent-Range: bytes */6\r\n\r\n"
unfolding digits allow_line connection_line
nothing_of_a_file = refl

other_method : head_text (refusal_head 405 false)
    ≡ codes
    "HTTP/1.1 405 Method Not Allowed\r\nContent-Type: text/plain\r\nContent-Length: 23\r\nAllow: GET, HEAD\r\n\r\n"
unfolding digits allow_line connection_line
other_method = refl

body_of_404 : error_body 404 ≡ codes "404 Not Found\n"
unfolding digits
body_of_404 = refl

script_in_chunks : head_text (script_head true false)
    ≡ codes "HTTP/1.1 200 OK\r\nContent-Type: text/plain\r\nTransfer-Encoding: chunked\r\n\r\n"
unfolding digits allow_line connection_line
script_in_chunks = refl

script_until_close : head_text (script_head false true)
    ≡ codes "HTTP/1.1 200 OK\r\nContent-Type: text/plain\r\nConnection: close\r\n\r\n"
unfolding digits allow_line connection_line
script_until_close = refl

-- a body that ends with the connection is never sent without a close
script_closes : script_head false false ≡ script_head false true
script_closes = refl
