-- The tiers and the rooms of the labels of entries.
use Rattle.std.specs.Prelude.{ℕ, ◌≡◌, ◌-◌, ◌==◌, nat_le, nat_lt, min, ⊤, ◌||◌, List, [], ◌∷◌, ◌++◌, map, if◌then◌else◌}
use Rattle.std.specs.List.{fold, zip}
use Rattle.partial_picture.specs.Lengths.{sum_of}
use Rattle.partial_picture.specs.declared.entries.Label.{Label}
use Rattle.partial_picture.specs.declared.pixels.Pixels.{Pixels}

-- the tier of each label and its place
abbrev pub label_places : List Label → List Pixels → List (ℕ × ℕ)
label_places labels places = zip (map (λ l. l.tier) labels) (map (λ p. p.0) places)

-- where the labels of a tier end, when these are drawn and each is 160 wide
abbrev pub end_in : List (ℕ × ℕ) → ℕ → ℕ
end_in front t = fold (λ e x. if x.0 == t then sum_of x.1 160 else e) 0 front

-- the ends of the three tiers
abbrev pub ends_in : List (ℕ × ℕ) → List ℕ
ends_in front = end_in front 0 ∷ end_in front 1 ∷ end_in front 2 ∷ []

-- Of three tiers with these ends, the lowest one that has ended at a place or, when there is none, the one that ends
-- first.
abbrev pub tier_for : List ℕ → ℕ → ℕ
tier_for (a ∷ b ∷ c ∷ _) place = if nat_le a place then 0 else if nat_le b place then 1 else
    if nat_le c place || nat_lt c (min a b) then 2 else if nat_lt b a then 1 else 0
tier_for _ place = 0

-- each label is in the tier for its place, after those in front of it
abbrev pub AreTiered : List (ℕ × ℕ) → List (ℕ × ℕ) → Type 0
AreTiered front [] = ⊤
AreTiered front (x ∷ xs) = (x.0 ≡ tier_for (ends_in front) x.1) × AreTiered (front ++ x ∷ []) xs

-- the place of the first of these labels that is in a tier, or the width of the drawing
abbrev pub next_in : ℕ → ℕ → List (ℕ × ℕ) → ℕ
next_in width t [] = width
next_in width t (x ∷ xs) = if x.0 == t then x.1 else next_in width t xs

-- the room of each label, from its place to the next one of its tier
abbrev pub rooms_in : ℕ → List (ℕ × ℕ) → List ℕ
rooms_in width [] = []
rooms_in width (x ∷ xs) = (next_in width x.0 xs - x.1) ∷ rooms_in width xs
