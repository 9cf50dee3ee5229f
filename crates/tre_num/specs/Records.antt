-- The records of comma-separated bytes (RFC 4180), as the crate csv reads them by its defaults.
use Rattle.std.specs.Prelude.{ℕ, Bool, true, false, ◌&&◌, ◌||◌, ◌==◌, List, [], ◌∷◌, ◌++◌, take, drop, if◌then◌else◌}
use Rattle.std.specs.Str.{bytes_eq}

-- Where a byte stands: where a line begins, or a field; in a field, in quotes, or behind quotes
-- that closed.
pub data At : Type 0 where
  line : At
  field : At
  bare : At
  quoted : At
  closed : At

abbrev pub begins_field : At → Bool
begins_field line = true
begins_field field = true
begins_field at = false

abbrev pub is_closed : At → Bool
is_closed closed = true
is_closed at = false

abbrev pub begins_line : At → Bool
begins_line line = true
begins_line at = false

-- The records of bytes, behind the text of a field and the fields before it. A comma (44) ends a
-- field, a CR (13) or LF (10) a record; a line with nothing in it is none. Quotes (34) round a
-- field take in all bytes, and there two of them are one.
unfoldable pub records : At → List ℕ → List (List ℕ) → List ℕ → List (List (List ℕ))
records line text fields [] = []
records at text fields [] = (fields ++ text ∷ []) ∷ []
records quoted text fields (byte ∷ bytes) =
    if byte == 34 then records closed text fields bytes
    else records quoted (text ++ byte ∷ []) fields bytes
records at text fields (byte ∷ bytes) =
    if begins_field at && byte == 34 then records quoted text fields bytes
    else (if is_closed at && byte == 34 then records quoted (text ++ byte ∷ []) fields bytes
    else (if byte == 44 then records field [] (fields ++ text ∷ []) bytes
    else (if byte == 13 || byte == 10
    then (if begins_line at then records line [] [] bytes
    else (fields ++ text ∷ []) ∷ records line [] [] bytes)
    else records bare (text ++ byte ∷ []) fields bytes)))

-- U+FEFF in UTF-8, which counts for nothing where the bytes begin
abbrev pub byte_order_mark : List ℕ
byte_order_mark = 0xEF ∷ 0xBB ∷ 0xBF ∷ []

abbrev pub records_of : List ℕ → List (List (List ℕ))
records_of bytes = records line [] []
    (if bytes_eq (take 3 bytes) byte_order_mark then drop 3 bytes else bytes)
