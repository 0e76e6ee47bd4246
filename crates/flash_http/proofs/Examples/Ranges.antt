-- Ranges: examples, those of 10,000 bytes from RFC 9110, section 14.1.2.
use Rattle.std.proofs.Common.{◌≡◌, Some, None, refl}
use Rattle.std.specs.Prelude.{codes}
use Rattle.flash_http.specs.Range.{part_of_value, selected}
use Rattle.flash_http.specs.declared.requests.Part.TheVariants.{From, Final}
use Rattle.flash_http.specs.declared.ranges.Selection.TheVariants.{Whole, Bytes, Unsatisfiable}

first_500 : part_of_value (codes "bytes=0-499") ≡ Some (From 0 (Some 499))
first_500 = refl

to_the_end : part_of_value (codes "bytes=9500-") ≡ Some (From 9500 None)
to_the_end = refl

final_500 : part_of_value (codes "bytes=-500") ≡ Some (Final 500)
final_500 = refl

ends_before_it_begins : part_of_value (codes "bytes=2-1") ≡ None
ends_before_it_begins = refl

two_ranges : part_of_value (codes "bytes=0-0,-1") ≡ None
two_ranges = refl

other_unit : part_of_value (codes "Bytes=0-0") ≡ None
other_unit = refl

sixteen_digits : part_of_value (codes "bytes=0000000000000000-") ≡ None
sixteen_digits = refl

second_500 : selected (Some (From 500 (Some 999))) 10000 ≡ Bytes 500 999
second_500 = refl

last_500 : selected (Some (Final 500)) 10000 ≡ Bytes 9500 9999
last_500 = refl

past_the_end : selected (Some (From 4 (Some 99))) 6 ≡ Bytes 4 5
past_the_end = refl

more_than_there_are : selected (Some (Final 9)) 6 ≡ Bytes 0 5
more_than_there_are = refl

begins_past_the_end : selected (Some (From 6 None)) 6 ≡ Unsatisfiable
begins_past_the_end = refl

no_last_bytes : selected (Some (Final 0)) 6 ≡ Unsatisfiable
no_last_bytes = refl

empty_file : selected (Some (From 0 (Some 0))) 0 ≡ Whole
empty_file = refl
