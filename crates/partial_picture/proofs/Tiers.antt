-- The tiers and the rooms of labels, one label after another.
use Rattle.partial_picture.proofs.Common.{arith, ℕ, ◌≡◌, ◌++◌, ◌∷◌, [], ◌<◌, ◌-◌, List, length, take, sym, ap, ◌∙◌}
use Rattle.std.proofs.Common.{◌≤◌, ◌+◌, ◌==◌, zero, suc, All, drop, slice_index_or, map, refl, slice_set, subst, inl, inr, if◌then◌else◌}
use Rattle.std.proofs.lemmas.Bool.{cases_eq, cases_lt}
use Rattle.std.proofs.lemmas.Grind.{common_steps, fold-append}
use Rattle.std.proofs.lemmas.List.{append_assoc, append-nil, drop_all, drop_more, drop-set, get_or-map, get_or-replicate, get_or-set_other, get_or-set_same, get_or_append_left, get_or_push, length_push, length-map, length-take-le, map_push, take_more, map-set, set-get_or}
use Rattle.std.specs.List.{zip}
use Rattle.partial_picture.specs.Labels.{AreTiered, end_in, ends_in, label_places, next_in, rooms_in, tier_for}
use Rattle.partial_picture.specs.Lengths.{sum_of}
use Rattle.partial_picture.specs.declared.entries.Label.{Label}
use Rattle.partial_picture.specs.declared.pixels.Pixels.{Pixels}

-- ---- two lists side by side

pub zip_push : {X Y : Type 0} (xs : List X) (ys : List Y) (x : X) (y : Y) → length xs ≡ length ys → zip (xs ++ x ∷ []) (ys ++ y ∷ []) ≡ zip xs ys ++ (x, y) ∷ []
zip_push [] [] x y same = refl
zip_push [] (v ∷ ys) x y same = absurd (omega arith)
zip_push (u ∷ xs) [] x y same = absurd (omega arith)
zip_push {X} {Y} (u ∷ xs) (v ∷ ys) x y same = ap (λ (l : List (X × Y)). (u, v) ∷ l) (zip_push xs ys x y (omega arith))

pub zip_at : {X Y : Type 0} (xs : List X) (ys : List Y) (i : ℕ) (x : X) (y : Y) → i < length xs → length xs ≡ length ys → slice_index_or (zip xs ys) i (x, y) ≡ (slice_index_or xs i x, slice_index_or ys i y)
zip_at [] ys i x y less same = absurd (omega arith)
zip_at (u ∷ xs) [] i x y less same = absurd (omega arith)
zip_at (u ∷ xs) (v ∷ ys) zero x y less same = refl
zip_at (u ∷ xs) (v ∷ ys) (suc i) x y less same = zip_at xs ys i x y (omega arith) (omega arith)

pub length-zip : {X Y : Type 0} (xs : List X) (ys : List Y) → length xs ≡ length ys → length (zip xs ys) ≡ length xs
length-zip [] ys same = refl
length-zip (u ∷ xs) [] same = absurd (omega arith)
length-zip (u ∷ xs) (v ∷ ys) same = ap suc (length-zip xs ys (omega arith))

-- ---- tiers

pub tiered_more : (front xs : List (ℕ × ℕ)) (x : ℕ × ℕ) → AreTiered front xs → x.0 ≡ tier_for (ends_in (front ++ xs)) x.1 → AreTiered front (xs ++ x ∷ [])
tiered_more front [] x known is = (is ∙ ap (λ (l : List (ℕ × ℕ)). tier_for (ends_in l) x.1) (append-nil front), tt)
tiered_more front (y ∷ xs) x known is = (known.0, tiered_more (front ++ y ∷ []) xs x known.1 (is ∙ ap (λ (l : List (ℕ × ℕ)). tier_for (ends_in l) x.1) (sym (append_assoc front (y ∷ []) xs))))

end_more : (front : List (ℕ × ℕ)) (x : ℕ × ℕ) (t : ℕ) → end_in (front ++ x ∷ []) t ≡ (if x.0 == t then sum_of x.1 160 else end_in front t)
end_more front x t = fold-append (λ (e : ℕ) (y : ℕ × ℕ). if y.0 == t then sum_of y.1 160 else e) 0 front (x ∷ [])

three : (a b c d e f : ℕ) → a ≡ d → b ≡ e → c ≡ f → a ∷ b ∷ c ∷ [] ≡ d ∷ e ∷ f ∷ []
three a b c d e f i j k = ap (λ x. x ∷ b ∷ c ∷ []) i ∙ ap (λ x. d ∷ x ∷ c ∷ []) j ∙ ap (λ x. d ∷ e ∷ x ∷ []) k

pub ends_more : (front : List (ℕ × ℕ)) (t place : ℕ) → t < 3 → slice_set (ends_in front) t (sum_of place 160) ≡ ends_in (front ++ (t, place) ∷ [])
ends_more front zero place less = three _ _ _ _ _ _ (sym (end_more front (0, place) 0)) (sym (end_more front (0, place) 1)) (sym (end_more front (0, place) 2))
ends_more front (suc zero) place less = three _ _ _ _ _ _ (sym (end_more front (1, place) 0)) (sym (end_more front (1, place) 1)) (sym (end_more front (1, place) 2))
ends_more front (suc (suc zero)) place less = three _ _ _ _ _ _ (sym (end_more front (2, place) 0)) (sym (end_more front (2, place) 1)) (sym (end_more front (2, place) 2))
ends_more front (suc (suc (suc t))) place less = absurd (omega arith)

-- ---- rooms

-- the labels from a place on have their rooms, and the tiers end at these places
pub record HaveRoom (width : ℕ) (all : List (ℕ × ℕ)) (i : ℕ) (rooms ends : List ℕ) : Type 0 where
  pub rooms_are : drop i rooms ≡ rooms_in width (drop i all)
  pub ends_are : (t : ℕ) → t < 3 → slice_index_or ends t 0 ≡ next_in width t (drop i all)

next_own : (width t place : ℕ) (xs : List (ℕ × ℕ)) → next_in width t ((t, place) ∷ xs) ≡ place
next_own width t place xs = grind (arith, common_steps)

next_other : (width t u place : ℕ) (xs : List (ℕ × ℕ)) → (u ≡ t → ⊥) → next_in width u ((t, place) ∷ xs) ≡ next_in width u xs
next_other width t u place xs other = grind (arith, common_steps)

pub room_more : (width : ℕ) (all : List (ℕ × ℕ)) (i n t place : ℕ) (rooms ends : List ℕ) → n ≡ i + 1 → i < length all → length rooms ≡ length all → length ends ≡ 3 → t < 3 →
    slice_index_or all i (t, place) ≡ (t, place) → HaveRoom width all n rooms ends → HaveRoom width all i (slice_set rooms i (slice_index_or ends t 0 - place)) (slice_set ends t place)
room_more width all i n t place rooms ends next less same many below here w =
    let w' : HaveRoom width all (i + 1) rooms ends = subst (λ (k : ℕ). HaveRoom width all k rooms ends) next w in
    let rest = drop (i + 1) all in
    let all_is : drop i all ≡ (t, place) ∷ rest = drop_more all i (t, place) less ∙ ap (λ (x : ℕ × ℕ). x ∷ rest) here in
    let within : i < length rooms = omega (arith, less, same) in
    record {
      rooms_are = drop-set rooms i (slice_index_or ends t 0 - place) within ∙ ap (λ (l : List ℕ). (slice_index_or ends t 0 - place) ∷ l) w'.rooms_are
          ∙ ap (λ (k : ℕ). (k - place) ∷ rooms_in width rest) (w'.ends_are t below) ∙ sym (ap (rooms_in width) all_is);
      ends_are = λ u h. elim (cases_eq u t) [
        | inl is ↦ rw is (get_or-set_same ends t place 0 (omega (arith, below, many)) ∙ sym (next_own width t place rest) ∙ sym (ap (next_in width t) all_is))
        | inr other ↦ get_or-set_other ends t u place 0 other ∙ w'.ends_are u h ∙ sym (next_other width t u place rest other) ∙ sym (ap (next_in width u) all_is)
      ];
    }

pub rooms_begin : (width n : ℕ) (all : List (ℕ × ℕ)) (rooms : List ℕ) → length all ≤ n → length rooms ≤ n → HaveRoom width all n rooms (width ∷ width ∷ width ∷ [])
rooms_begin width n all rooms past beyond = record {
  rooms_are = drop_all n rooms beyond ∙ sym (ap (rooms_in width) (drop_all n all past));
  ends_are = λ t h. get_or-replicate 3 t width 0 h ∙ sym (ap (next_in width t) (drop_all n all past));
}

-- ---- labels

pub length_of_places : (labels : List Label) (places : List Pixels) → length labels ≡ length places → length (label_places labels places) ≡ length labels
length_of_places labels places long = length-zip (map (λ (l : Label). l.tier) labels) (map (λ (p : Pixels). p.0) places)
    (length-map labels (λ (l : Label). l.tier) ∙ long ∙ sym (length-map places (λ (p : Pixels). p.0))) ∙ length-map labels (λ (l : Label). l.tier)

-- a label's tier where the tiers are the same
pub tier_is : (labels first : List Label) (i : ℕ) (d : Label) → map (λ l. l.tier) labels ≡ map (λ l. l.tier) first → i < length first → length labels ≡ length first →
    (slice_index_or labels i d).tier ≡ (slice_index_or first i d).tier
tier_is labels first i d same less long = sym (get_or-map (λ (l : Label). l.tier) labels i d d.tier (omega (arith, less, long))) ∙ ap (λ (l : List ℕ). slice_index_or l i d.tier) same
    ∙ get_or-map (λ (l : Label). l.tier) first i d d.tier less

pub same_length : (labels first : List Label) → map (λ l. l.tier) labels ≡ map (λ l. l.tier) first → length labels ≡ length first
same_length labels first same = sym (length-map labels (λ (l : Label). l.tier)) ∙ ap length same ∙ length-map first (λ (l : Label). l.tier)

pub tier_below : (labels first : List Label) (i : ℕ) (d : Label) → map (λ l. l.tier) labels ≡ map (λ l. l.tier) first → All (λ l. l.tier < 3) first → i < length labels → (slice_index_or labels i d).tier < 3
tier_below labels first i d same below less =
    let long = same_length labels first same in
    let within : i < length first = omega (arith, less, long) in
    rw (tier_is labels first i d same within long) (below i d within)

-- a label's tier stays when its room is slice_set
pub tiers_kept : (labels : List Label) (i : ℕ) (d new : Label) → i < length labels → new.tier ≡ (slice_index_or labels i d).tier → map (λ l. l.tier) (slice_set labels i new) ≡ map (λ l. l.tier) labels
tiers_kept labels i d new less is = map-set (λ (l : Label). l.tier) labels i new ∙ ap (slice_set (map (λ l. l.tier) labels) i) (is ∙ sym (get_or-map (λ (l : Label). l.tier) labels i d 0 less))
    ∙ set-get_or (map (λ l. l.tier) labels) i 0

pub label_more : (width : ℕ) (labels first : List Label) (places : List Pixels) (i n : ℕ) (ends : List ℕ) (d new : Label) (e : Pixels) → n ≡ i + 1 → i < length labels → length first ≡ length places →
    map (λ l. l.tier) labels ≡ map (λ l. l.tier) first → All (λ l. l.tier < 3) first → length ends ≡ 3 → HaveRoom width (label_places first places) n (map (λ l. l.room.0) labels) ends →
    new.tier ≡ (slice_index_or labels i d).tier → new.room.0 ≡ slice_index_or ends (slice_index_or labels i d).tier 0 - (slice_index_or places i e).0 →
    HaveRoom width (label_places first places) i (map (λ l. l.room.0) (slice_set labels i new)) (slice_set ends (slice_index_or labels i d).tier (slice_index_or places i e).0)
label_more width labels first places i n ends d new e next less long same below many w kept room =
    let t = (slice_index_or labels i d).tier in
    let place = (slice_index_or places i e).0 in
    let alike = same_length labels first same in
    let within : i < length first = omega (arith, less, alike) in
    let sides : length (map {A = Label} {B = ℕ} (λ l. l.tier) first) ≡ length (map {A = Pixels} {B = ℕ} (λ p. p.0) places) = length-map first (λ (l : Label). l.tier) ∙ long ∙ sym (length-map places (λ (p : Pixels). p.0)) in
    let all_long = length-zip (map (λ (l : Label). l.tier) first) (map (λ (p : Pixels). p.0) places) sides ∙ length-map first (λ (l : Label). l.tier) in
    let rooms_long = length-map labels (λ (l : Label). l.room.0) in
    let here : slice_index_or (label_places first places) i (t, place) ≡ (t, place) =
    zip_at (map (λ (l : Label). l.tier) first) (map (λ (p : Pixels). p.0) places) i t place (omega (arith, within, length-map first (λ (l : Label). l.tier))) sides
    ∙ ap (λ k. (k, slice_index_or (map (λ (p : Pixels). p.0) places) i place)) (get_or-map (λ (l : Label). l.tier) first i d t within ∙ sym (tier_is labels first i d same within alike))
    ∙ ap (λ k. (t, k)) (get_or-map (λ (p : Pixels). p.0) places i e place (omega (arith, within, long))) in
    let more = room_more width (label_places first places) i n t place (map (λ (l : Label). l.room.0) labels) ends next (omega (arith, within, all_long))
    (omega (arith, alike, all_long, rooms_long)) many (tier_below labels first i d same below less) here w in
    rw (map-set (λ (l : Label). l.room.0) labels i new) (rw room more)

pub below_more : (labels : List Label) (new : Label) → All (λ l. l.tier < 3) labels → new.tier < 3 → All (λ l. l.tier < 3) (labels ++ new ∷ [])
below_more labels new below less k d within = elim (cases_lt k (length labels)) [
  | inl h ↦ rw (get_or_append_left labels (new ∷ []) d k h) (below k d h)
  | inr h ↦ let i : length labels ≡ k = omega (arith, h, within, length_push labels new) in rw (get_or_push labels new d k i) less
]

pub places_more : (labels : List Label) (places : List Pixels) (i : ℕ) (e : Pixels) (new : Label) → length labels ≡ i → i < length places →
    label_places (labels ++ new ∷ []) (take (i + 1) places) ≡ label_places labels (take i places) ++ (new.tier, (slice_index_or places i e).0) ∷ []
places_more labels places i e new long less =
    let p = slice_index_or places i e in
    let tiers_are = map_push (λ (l : Label). l.tier) labels new in
    let there : map (λ (q : Pixels). q.0) (take (i + 1) places) ≡ map (λ (q : Pixels). q.0) (take i places) ++ p.0 ∷ [] =
    ap (map (λ (q : Pixels). q.0)) (take_more places i e less) ∙ map_push (λ (q : Pixels). q.0) (take i places) p in
    let same : length (map (λ (l : Label). l.tier) labels) ≡ length (map (λ (q : Pixels). q.0) (take i places)) =
    length-map labels (λ (l : Label). l.tier) ∙ long ∙ sym (length-map (take i places) (λ (q : Pixels). q.0) ∙ length-take-le i places (omega (arith, less))) in
    ap (λ (l : List ℕ). zip l (map (λ (q : Pixels). q.0) (take (i + 1) places))) tiers_are ∙ ap (zip (map (λ (l : Label). l.tier) labels ++ new.tier ∷ [])) there
    ∙ zip_push (map (λ (l : Label). l.tier) labels) (map (λ (q : Pixels). q.0) (take i places)) new.tier p.0 same

pub label_pushed : (labels : List Label) (places : List Pixels) (i : ℕ) (e : Pixels) (new : Label) (ends : List ℕ) (end : ℕ) → length labels ≡ i → i < length places →
    AreTiered [] (label_places labels (take i places)) → ends ≡ ends_in (label_places labels (take i places)) → new.tier ≡ tier_for ends (slice_index_or places i e).0 → new.tier < 3 →
    end ≡ sum_of (slice_index_or places i e).0 160 →
    AreTiered [] (label_places (labels ++ new ∷ []) (take (i + 1) places)) × (slice_set ends new.tier end ≡ ends_in (label_places (labels ++ new ∷ []) (take (i + 1) places)))
label_pushed labels places i e new ends end long less known ends_are is below ends_at =
    let front = label_places labels (take i places) in
    let p = slice_index_or places i e in
    let more = places_more labels places i e new long less in (
      rw more (tiered_more [] front (new.tier, p.0) known (is ∙ ap (λ (l : List ℕ). tier_for l p.0) ends_are)),
      rw more (ap (λ (l : List ℕ). slice_set l new.tier end) ends_are ∙ ap (slice_set (ends_in front) new.tier) ends_at ∙ ends_more front new.tier p.0 below),
    )
