-- What is seen of the code's bars and arrows.
use Rattle.partial_picture.proofs.Common.{ℕ, ◌≡◌, ◌∷◌, [], List, Option, Some, ap, ◌∙◌}
use Rattle.std.proofs.Common.{Bool, true, false, ◌&&◌, ◌-◌, if◌then◌else◌, None, Vec, Global, map, refl}
use Rattle.std.specs.List.{cons_option, filter_map}
use Rattle.std.specs.Option.{option_and_then, option_map}
use Rattle.partial_model.specs.declared.call.Called.{Called}
use Rattle.partial_words.specs.declared.step.Event.{Event}
use Rattle.partial_picture.specs.Arrows.{ArrowView, arrow_at, arrow_of, arrow_seen, arrow_with, met_at, met_of}
use Rattle.partial_picture.specs.Bars.{BarView, bar_at, bar_of, bar_seen, bar_with, has_bar, is_in, marks_of}
use Rattle.partial_picture.specs.Made.{calls_made, made_by_ports, made_seen, steps_by_port}
use Rattle.partial_picture.specs.Pins.{won_steps}
use Rattle.partial_picture.specs.declared.picture.ArrowKind.{ArrowKind}
use Rattle.partial_picture.specs.declared.spans.Made.{Made}
use Rattle.partial_picture.specs.declared.window.Span.{Span}

map_cons : {B C : Type 0} (g : B → C) (o : Option B) (xs : List B) → map g (cons_option o xs) ≡ cons_option (option_map g o) (map g xs)
map_cons g None xs = refl
map_cons g (Some y) xs = refl

-- what is seen of what a list gives is what is given by what is seen of it
pub map_filter_map : {A B C D : Type 0} (f : A → Option B) (g : B → C) (h : A → D) (k : D → Option C) → ((x : A) → option_map g (f x) ≡ k (h x)) → (xs : List A) →
    map g (filter_map f xs) ≡ filter_map k (map h xs)
map_filter_map f g h k same [] = refl
map_filter_map {A} {B} {C} {D} f g h k same (x ∷ xs) = map_cons g (f x) (filter_map f xs) ∙ ap (λ (ys : List C). cons_option (option_map g (f x)) ys) (map_filter_map f g h k same xs)
    ∙ ap (λ (o : Option C). cons_option o (filter_map k (map h xs))) (same x)

bar_or_none : (m : Made) (marks : Span) (begins ends there : Bool) → let v : BarView = record { called = m.called.now; marks = marks; begins = begins; ends = ends } in
    option_map bar_seen (option_map (bar_with m.called) (if there then Some v else None)) ≡ (if there then Some v else None)
bar_or_none m marks begins ends true = refl
bar_or_none m marks begins ends false = refl

pub bars_seen : (window : Span) (steps : ℕ) (made : List Made) → map bar_seen (filter_map (bar_of window steps) made) ≡ filter_map (bar_at window steps) (map made_seen made)
bars_seen window steps made = map_filter_map (bar_of window steps) bar_seen made_seen (bar_at window steps)
    (λ m. bar_or_none m (marks_of window m.span) _ _ (has_bar window steps m.span)) made

arrow_or_none : (m : Made) (kind : ArrowKind) (stamp from to : ℕ) (there : Bool) → let v : ArrowView = record { kind = kind; stamp = stamp; from = from; to = to; called = m.called.now } in
    option_map arrow_seen (option_map (arrow_with m.called) (if there then Some v else None)) ≡ (if there then Some v else None)
arrow_or_none m kind stamp from to true = refl
arrow_or_none m kind stamp from to false = refl

bind_again : {X : Type 0} (m : Made) (f : X → Option ArrowView) → ((x : X) → option_map arrow_seen (option_map (arrow_with m.called) (f x)) ≡ f x) → (o : Option X) →
    option_map arrow_seen (option_map (arrow_with m.called) (option_and_then f o)) ≡ option_and_then f o
bind_again m f same None = refl
bind_again m f same (Some x) = same x

arrow_same : (components : ℕ) (window : Span) (trace : List Event) (entry : ℕ → Option ℕ) (m : Made) → option_map arrow_seen (arrow_of components window trace entry m) ≡ arrow_at components window trace entry (made_seen m)
arrow_same components window trace entry m = bind_again m _ (λ met. bind_again m _ (λ from. bind_again m _ (λ to.
    arrow_or_none m met.0 met.1 (from - window.first) (to - window.first) (is_in m.span from && is_in window from && is_in window to))
    (met_at met.0 components met.1 trace m.steps.now)) (entry met.1)) (met_of m.called.now.finish)

pub arrows_seen : (components : ℕ) (window : Span) (trace : List Event) (entry : ℕ → Option ℕ) (made : List Made) →
    map arrow_seen (filter_map (arrow_of components window trace entry) made) ≡ filter_map (arrow_at components window trace entry) (map made_seen made)
arrows_seen components window trace entry made = map_filter_map (arrow_of components window trace entry) arrow_seen made_seen (arrow_at components window trace entry)
    (arrow_same components window trace entry) made

-- what the calls of a replay made, by the steps that were found
pub made_are : (m ports : ℕ) (trace : List Event) (calls : List Called) (own : List (Vec ℕ Global)) (entries : List ℕ) (made : List Made) →
    map (λ v. v.items) own ≡ steps_by_port ports trace → entries ≡ won_steps m trace → map made_seen made ≡ made_by_ports (map (λ v. v.items) own) entries calls →
    map made_seen made ≡ calls_made m ports trace calls
made_are m ports trace calls own entries made steps won is =
    is ∙ ap (λ (l : List (List ℕ)). made_by_ports l entries calls) steps ∙ ap (λ (l : List ℕ). made_by_ports (steps_by_port ports trace) l calls) won
