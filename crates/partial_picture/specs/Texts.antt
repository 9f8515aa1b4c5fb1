-- Words in a drawing: escaped, and cut to their room.
use Rattle.std.specs.Prelude.{ℕ, ◌≡◌, ◌==◌, ◌-◌, List, ◌++◌, codes, encode_utf8, encode_utf8_all, take, if◌then◌else◌}
use Rattle.std.specs.List.{flat_map}
use Rattle.std.specs.Str.{chars}

-- a letter, escaped when SVG gives it a meaning
abbrev pub escaped_letter : ℕ → List ℕ
escaped_letter letter = if letter == 38 then codes "&amp;" else if letter == 60 then codes "&lt;" else
    if letter == 62 then codes "&gt;" else if letter == 34 then codes "&quot;" else
    if letter == 39 then codes "&#39;" else encode_utf8 letter

-- a text goes on with the letters of words, each escaped
abbrev pub Escapes : List ℕ → List ℕ → List ℕ → Type 0
Escapes words before after = (letters : List ℕ) × (encode_utf8_all letters ≡ words) × (after ≡ before ++ flat_map escaped_letter letters)

-- words cut to so many letters, of which the last is that of three dots
abbrev pub cut_to : ℕ → List ℕ → List ℕ
cut_to n words = encode_utf8_all (take (n - 1) (chars words)) ++ encode_utf8 8230
