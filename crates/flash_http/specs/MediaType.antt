-- Media types (RFC 9110, section 8.3), by the suffix of a file's name.
use Rattle.std.specs.Prelude.{ℕ, Bool, List, codes, nat_eq, if◌then◌else◌}
use Rattle.std.specs.List.{ends_with}
use Rattle.flash_http.specs.declared.names.MediaType.{MediaType}
use Rattle.flash_http.specs.declared.names.MediaType.TheVariants.{Html, PlainText, Css, JavaScript, Json, Png, Jpeg}
use Rattle.flash_http.specs.declared.names.MediaType.TheVariants.{OctetStream}

abbrev pub is_script : (name : List ℕ) → Bool
is_script name = ends_with nat_eq name (codes ".cgi")

abbrev pub media_type : (name : List ℕ) → MediaType
media_type name =
    if ends_with nat_eq name (codes ".html") then Html
    else (if ends_with nat_eq name (codes ".txt") then PlainText
    else (if ends_with nat_eq name (codes ".css") then Css
    else (if ends_with nat_eq name (codes ".js") then JavaScript
    else (if ends_with nat_eq name (codes ".json") then Json
    else (if ends_with nat_eq name (codes ".png") then Png
    else (if ends_with nat_eq name (codes ".jpg") then Jpeg
    else OctetStream))))))

abbrev pub media_text : MediaType → List ℕ
media_text Html = codes "text/html"
media_text PlainText = codes "text/plain"
media_text Css = codes "text/css"
media_text JavaScript = codes "text/javascript"
media_text Json = codes "application/json"
media_text Png = codes "image/png"
media_text Jpeg = codes "image/jpeg"
media_text OctetStream = codes "application/octet-stream"
