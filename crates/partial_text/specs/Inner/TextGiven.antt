-- How a text is given to a writer, piece by piece.
use Rattle.std.specs.Prelude.{ℕ, ◌≡◌, List, ◌++◌, Bool, Option, take, MatchBool}
use Rattle.std.specs.Io.KnownBytes.{Appends}
use Rattle.partial_text.specs.DeviceView.{DeviceView}

-- How far a text has been given: what is gathered and not yet written, the bytes that were written, if they are known, and whether a write has failed
pub record TextGiven : Type 0 where
  pub gathered : List ℕ
  pub written : Option (List ℕ)
  pub failed : Bool

-- a text that is being given to this writer, of which these bytes are gathered
abbrev pub text_given : {W : Type 0} → (W → Option (List ℕ)) → List ℕ → DeviceView W → TextGiven
text_given contents gathered writer = record { gathered = gathered; written = contents writer.inner; failed = writer.failed }

-- the text was given after these bytes: all of it is written but what is gathered, or a write has failed after a part of it
abbrev pub IsGiven : Option (List ℕ) → List ℕ → TextGiven → Type 0
IsGiven before text t = MatchBool t.failed
    ((n : ℕ) × Appends before t.written (take n text))
    ((part : List ℕ) × Appends before t.written part × (text ≡ part ++ t.gathered))

-- these bytes are given, after whatever text was given before
pub record GivesBytes (old : TextGiven) (bytes : List ℕ) (new : TextGiven) : Type 0 where
  pub behind : (before : Option (List ℕ)) (text : List ℕ) → IsGiven before text old → IsGiven before (text ++ bytes) new
