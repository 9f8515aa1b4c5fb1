-- Holdings with one in the place of another: their blocks, those without a port's own one, and how many are marked.
use Rattle.partial_state.proofs.{Common.{joined_in, ClaimedSlot, ℕ, suc, ◌≡◌, ◌≢◌, ◌+◌, ◌<◌, ◌≤◌, ◌==◌, ◌++◌, Bool, true, false, if◌then◌else◌, List, [], ◌∷◌, length, filter_map, map, slice_index, Option, Some, None, IfSome, IsSomeAnd, refl, sym, ◌∙◌, ap, subst, inl, inr, arith, AllByRecursion, cons_option, option_map, ne_eqb, eq-eqb, view_of, view_len, Layout, list_base, IsOwn, Pool, Lists, Block, AreApart, JoinedAnnouncement, Own, Holding, Space, space_begin, EachTwo, IfJoined, block_of, block_at, unpublished, written, spares, without_block, HaveOtherPorts, HaveOtherSlots, own_view, plain_record_size, full_record_size, view_word, Counted, ListWords, PoolWords, Slots, is_marked, marked_ports, end_of, counter_of, first_free, pool_end, pool_counter}, ListLemmas.{all_append, all_front, all_back, all_map, all_unmap, all_weaker, two_front, two_before, two_after}}

-- what holds of the value in an option
pub if_some : {A : Type 0} (P Q : A → Type 0) (found : Option A) → ((a : A) → found ≡ Some a → P a → Q a) → IfSome found P → IfSome found Q
if_some P Q None f w = tt
if_some P Q (Some a) f w = f a refl w

pub if_some_at : {A : Type 0} (P : A → Type 0) (found : Option A) (a : A) → found ≡ Some a → IfSome found P → P a
if_some_at P found a e w = let h : IfSome (Some a) P = subst (λ (f : Option _). IfSome f P) e w in h

pub none_here : {A : Type 0} (P : A → Type 0) (found : Option A) → found ≡ None → IfSome found P
none_here P found e = subst (λ (f : Option _). IfSome f P) (sym e) tt

pub if_all : {A : Type 0} (P : A → Type 0) (found : Option A) → ((a : A) → found ≡ Some a → P a) → IfSome found P
if_all P None f = tt
if_all P (Some a) f = f a refl

pub some_found : {A : Type 0} (P : A → Type 0) (found : Option A) → IsSomeAnd found P → (a : A) × (found ≡ Some a) × P a
some_found P None w = absurd w
some_found P (Some a) w = (a, refl, w)

pub found_some : {A : Type 0} (P : A → Type 0) (found : Option A) (a : A) → found ≡ Some a → P a → IsSomeAnd found P
found_some P found a e p = subst (λ (f : Option _). IsSomeAnd f P) (sym e) p

pub joined_weaker : (h : Holding) (P Q : ℕ → JoinedAnnouncement → Type 0) → ((l : ℕ) (j : JoinedAnnouncement) → P l j → Q l j) → IfJoined h P → IfJoined h Q
joined_weaker h P Q f w = if_some (λ c. IfSome c.joined (P c.slot)) (λ c. IfSome c.joined (Q c.slot)) h.claimed (λ c e v. if_some (P c.slot) (Q c.slot) c.joined (λ j e' p. f c.slot j p) v) w

-- the values that a list's elements have, with one element apart
cons_append : {A : Type 0} (f : Option A) (xs ys : List A) → cons_option f (xs ++ ys) ≡ cons_option f xs ++ ys
cons_append None xs ys = refl
cons_append (Some a) xs ys = refl

pub filter_split : {A B : Type 0} (f : A → Option B) (before : List A) (x : A) (after : List A) → filter_map f (before ++ x ∷ after) ≡ filter_map f before ++ cons_option (f x) (filter_map f after)
filter_split f [] x after = refl
filter_split f (b ∷ before) x after = ap (λ (l : List _). cons_option (f b) l) (filter_split f before x after) ∙ cons_append (f b) (filter_map f before) (cons_option (f x) (filter_map f after))

pub map_split : {A B : Type 0} (f : A → B) (before : List A) (x : A) (after : List A) → map f (before ++ x ∷ after) ≡ map f before ++ f x ∷ map f after
map_split f [] x after = refl
map_split f (b ∷ before) x after = ap (λ (l : List _). f b ∷ l) (map_split f before x after)

-- the block is apart from the port's own one, and from its spare words
abbrev pub IsFreeOf : Holding → Block → Type 0
IsFreeOf h x = IfSome h.own (λ b. AreApart x (block_of b)) × AreApart x h.spare

-- what holds of each block that isn't published holds of each port's, and the other way
found_more : (P : Block → Type 0) (f : Option Own) (rest : List Block) → IfSome f (λ b. P (block_of b)) → AllByRecursion P rest → AllByRecursion P (cons_option (option_map block_of f) rest)
found_more P None rest w v = v
found_more P (Some b) rest w v = (w, v)

all_written : (P : Block → Type 0) (hs : List Holding) → AllByRecursion (λ h. IfSome h.own (λ b. P (block_of b))) hs → AllByRecursion P (written hs)
all_written P [] w = tt
all_written P (h ∷ hs) w = found_more P h.own (written hs) w.0 (all_written P hs w.1)

pub all_unpublished : (P : Block → Type 0) (hs : List Holding) → AllByRecursion (λ h. IfSome h.own (λ b. P (block_of b)) × P h.spare) hs → AllByRecursion P (unpublished hs)
all_unpublished P hs w =
    let O : Holding → Type 0 = λ h. IfSome h.own (λ b. P (block_of b)) in
    let S : Holding → Type 0 = λ h. P h.spare in
    let B : Holding → Type 0 = λ h. IfSome h.own (λ b. P (block_of b)) × P h.spare in
    all_append P (written hs) (spares hs) (all_written P hs (all_weaker B O (λ h k. k.0) hs w)) (all_map P (λ (h : Holding). h.spare) hs (all_weaker B S (λ h k. k.1) hs w))

found_less : (P : Block → Type 0) (f : Option Own) (rest : List Block) → AllByRecursion P (cons_option (option_map block_of f) rest) → IfSome f (λ b. P (block_of b)) × AllByRecursion P rest
found_less P None rest w = (tt, w)
found_less P (Some b) rest w = (w.0, w.1)

written_all : (P : Block → Type 0) (hs : List Holding) → AllByRecursion P (written hs) → AllByRecursion (λ h. IfSome h.own (λ b. P (block_of b))) hs
written_all P [] w = tt
written_all P (h ∷ hs) w = let both = found_less P h.own (written hs) w in (both.0, written_all P hs both.1)

all_both : {A : Type 0} (P Q : A → Type 0) (xs : List A) → AllByRecursion P xs → AllByRecursion Q xs → AllByRecursion (λ x. P x × Q x) xs
all_both P Q [] p q = tt
all_both P Q (x ∷ xs) p q = ((p.0, q.0), all_both P Q xs p.1 q.1)

pub unpublished_all : (P : Block → Type 0) (hs : List Holding) → AllByRecursion P (unpublished hs) → AllByRecursion (λ h. IfSome h.own (λ b. P (block_of b)) × P h.spare) hs
unpublished_all P hs w = all_both (λ (h : Holding). IfSome h.own (λ b. P (block_of b))) (λ (h : Holding). P h.spare) hs
    (written_all P hs (all_front P (written hs) (spares hs) w)) (all_unmap P (λ (h : Holding). h.spare) hs (all_back P (written hs) (spares hs) w))

-- the blocks that the ports write are apart
abbrev pub HaveOtherBlocks : Holding → Holding → Type 0
HaveOtherBlocks a b = IfSome a.own (λ x. IfSome b.own (λ y. AreApart (block_of x) (block_of y)))

one_less : (f : Option Own) (rest : List Block) → EachTwo AreApart (cons_option (option_map block_of f) rest) → IfSome f (λ a. AllByRecursion (AreApart (block_of a)) rest) × EachTwo AreApart rest
one_less None rest w = (tt, w)
one_less (Some a) rest w = (w.0, w.1)

uncross : (f : Option Own) (hs : List Holding) → IfSome f (λ a. AllByRecursion (AreApart (block_of a)) (written hs)) →
    AllByRecursion (λ h. IfSome f (λ a. IfSome h.own (λ b. AreApart (block_of a) (block_of b)))) hs
uncross None hs w = nothing hs
  where
    nothing : (ys : List Holding) → AllByRecursion (λ y. Unit {0}) ys
    nothing [] = tt
    nothing (y ∷ ys) = (tt, nothing ys)
uncross (Some a) hs w = written_all (AreApart (block_of a)) hs w

written_others : (hs : List Holding) → EachTwo AreApart (written hs) → EachTwo HaveOtherBlocks hs
written_others [] w = tt
written_others (h ∷ hs) w = let both = one_less h.own (written hs) w in (uncross h.own hs both.0, written_others hs both.1)

pub apart_others : (hs : List Holding) → EachTwo AreApart (unpublished hs) → EachTwo HaveOtherBlocks hs
apart_others hs w = written_others hs (two_front AreApart (written hs) (spares hs) w)

owns_turn : (a b : Option Own) → IfSome a (λ x. IfSome b (λ y. AreApart (block_of x) (block_of y))) → IfSome b (λ x. IfSome a (λ y. AreApart (block_of x) (block_of y)))
owns_turn None None w = w
owns_turn None (Some b) w = tt
owns_turn (Some a) None w = tt
owns_turn (Some a) (Some b) w = elim w [ inl h ↦ inr h | inr h ↦ inl h ]

pub blocks_turn : (x y : Holding) → HaveOtherBlocks x y → HaveOtherBlocks y x
blocks_turn x y w = owns_turn x.own y.own w

pub ports_turn : (x y : Holding) → HaveOtherPorts x y → HaveOtherPorts y x
ports_turn x y w = λ e. w (sym e)

pub slots_turn : (x y : Holding) → HaveOtherSlots x y → HaveOtherSlots y x
slots_turn x y w = if_all (λ c. IfSome x.claimed (λ d. c.slot ≢ d.slot)) y.claimed
    (λ c e. if_all (λ d. c.slot ≢ d.slot) x.claimed (λ d e' same. if_some_at (λ c. d.slot ≢ c.slot) y.claimed c e
    (if_some_at (λ d. IfSome y.claimed (λ c. d.slot ≢ c.slot)) x.claimed d e' w) (sym same)))

-- the holdings without the block of one port, with one holding apart
without_append : (p : ℕ) (before after : List Holding) → without_block p (before ++ after) ≡ without_block p before ++ without_block p after
without_append p [] after = refl
without_append p (b ∷ before) after = ap (λ (l : List Holding). (if b.port == p then record b { own = None } else b) ∷ l) (without_append p before after)

pub without_other : (p : ℕ) (before : List Holding) (h : Holding) (after : List Holding) → (h.port == p) ≡ false →
    without_block p (before ++ h ∷ after) ≡ without_block p before ++ h ∷ without_block p after
without_other p before h after e =
    without_append p before (h ∷ after) ∙ ap (λ (t : Bool). without_block p before ++ (if t then record h { own = None } else h) ∷ without_block p after) e

pub without_own : (p : ℕ) (before : List Holding) (h : Holding) (after : List Holding) → (h.port == p) ≡ true →
    without_block p (before ++ h ∷ after) ≡ without_block p before ++ record h { own = None } ∷ without_block p after
without_own p before h after e =
    without_append p before (h ∷ after) ∙ ap (λ (t : Bool). without_block p before ++ (if t then record h { own = None } else h) ∷ without_block p after) e

without_none : (h : Holding) (hs : List Holding) → AllByRecursion (HaveOtherPorts h) hs → without_block h.port hs ≡ hs
without_none h [] w = refl
without_none h (x ∷ hs) w = ap (λ (t : Bool). (if t then record x { own = None } else x) ∷ without_block h.port hs) (ne_eqb x.port h.port (λ e. w.0 (sym e))) ∙
    ap (λ (l : List Holding). x ∷ l) (without_none h hs w.1)

-- no other port loses its block: each has a holding of its own
pub without_this : (before : List Holding) (h : Holding) (after : List Holding) → EachTwo HaveOtherPorts (before ++ h ∷ after) →
    without_block h.port (before ++ h ∷ after) ≡ before ++ record h { own = None } ∷ after
without_this before h after two =
    without_own h.port before h after (eq-eqb h.port h.port refl)
    ∙ ap (λ (l : List Holding). l ++ record h { own = None } ∷ without_block h.port after) (without_none h before (two_before HaveOtherPorts ports_turn before h after two))
    ∙ ap (λ (l : List Holding). before ++ record h { own = None } ∷ l) (without_none h after (two_after HaveOtherPorts ports_turn before h after two))

pub marks_same : (c : Counted) (before : List Holding) (h h' : Holding) (after : List Holding) → is_marked c h' ≡ is_marked c h → marked_ports c (before ++ h' ∷ after) ≡ marked_ports c (before ++ h ∷ after)
marks_same c [] h h' after e = ap (λ b. (if b then 1 else 0) + marked_ports c after) e
marks_same c (b ∷ before) h h' after e = ap (λ n. (if is_marked c b then 1 else 0) + n) (marks_same c before h h' after e)

pub marks_more : (c : Counted) (before : List Holding) (h h' : Holding) (after : List Holding) → is_marked c h ≡ false → is_marked c h' ≡ true →
    marked_ports c (before ++ h' ∷ after) ≡ 1 + marked_ports c (before ++ h ∷ after)
marks_more c [] h h' after e f =
    let one : ◌≡◌ {A = ℕ} (if is_marked c h' then 1 else 0) 1 = ap (λ b. if b then 1 else 0) f in
    let none : ◌≡◌ {A = ℕ} (if is_marked c h then 1 else 0) 0 = ap (λ b. if b then 1 else 0) e in
    omega (arith, one, none)
marks_more c (b ∷ before) h h' after e f =
    let rest = marks_more c before h h' after e f in
    ap (λ n. (if is_marked c b then 1 else 0) + n) rest ∙ omega arith

pub marks_few : (c : Counted) (hs : List Holding) → marked_ports c hs ≤ length hs
marks_few c [] = omega arith
marks_few c (h ∷ hs) = few (is_marked c h) (marked_ports c hs) (length hs) (marks_few c hs)
  where
    few : (b : Bool) (m n : ℕ) → m ≤ n → (if b then 1 else 0) + m ≤ suc n
    few true m n w = omega arith
    few false m n w = omega arith

-- a port with the same marks
pub marks_kept : (h h' : Holding) → h'.pool_spent ≡ h.pool_spent → h'.slots_spent ≡ h.slots_spent → h'.lists_spent ≡ h.lists_spent → (c : Counted) → is_marked c h' ≡ is_marked c h
marks_kept h h' pool slots lists PoolWords = pool
marks_kept h h' pool slots lists Slots = slots
marks_kept h h' pool slots lists ListWords = lists

-- a record has at least the words of a plain one
pub three_words : (words : List ℕ) (stamp : ℕ) → plain_record_size ≤ (block_at words stamp).size
three_words words stamp = least (view_of words stamp == own_view stamp) (view_len words (own_view stamp))
  where
    least : (b : Bool) (n : ℕ) → plain_record_size ≤ (if b then full_record_size n else plain_record_size)
    least true n = omega arith
    least false n = omega arith

-- a record's block stays where its words do
pub block_stays : (words words' : List ℕ) (stamp : ℕ) → ((n : ℕ) → n < (block_at words stamp).size → slice_index words' (stamp + n) ≡ slice_index words (stamp + n)) →
    block_at words' stamp ≡ block_at words stamp
block_stays words words' stamp same =
    let size = three_words words stamp in
    let view : view_of words' stamp ≡ view_of words stamp = same (view_word 0) (omega (arith, size)) in
    ap (λ (v : ℕ). record { at = stamp; size = (if v == own_view stamp then full_record_size (view_len words' (own_view stamp)) else plain_record_size) }) view
    ∙ either words words' stamp same (view_of words stamp == own_view stamp) refl
  where
    either : (words words' : List ℕ) (stamp : ℕ) → ((n : ℕ) → n < (block_at words stamp).size → slice_index words' (stamp + n) ≡ slice_index words (stamp + n)) → (b : Bool) →
        (view_of words stamp == own_view stamp) ≡ b →
        ◌≡◌ {A = Block} (record {
          at = stamp;
          size =
              (if view_of words stamp == own_view stamp then full_record_size (view_len words' (own_view stamp)) else plain_record_size);
        }) (block_at words stamp)
    either words words' stamp same true e =
        let inside : plain_record_size < (block_at words stamp).size =
        subst (λ (t : Bool). plain_record_size < (if t then full_record_size (view_len words (own_view stamp)) else plain_record_size)) (sym e)
        (omega arith) in
        ap (λ (n : ℕ). record { at = stamp; size = (if view_of words stamp == own_view stamp then full_record_size n else plain_record_size) }) (same plain_record_size inside)
    either words words' stamp same false e =
        ap (λ (t : Bool). record { at = stamp; size = (if t then full_record_size (view_len words' (own_view stamp)) else plain_record_size) }) e ∙
        sym (ap (λ (t : Bool). record { at = stamp; size = (if t then full_record_size (view_len words (own_view stamp)) else plain_record_size) }) e)

-- a port's own block lies after the slots
pub own_far : (z : Layout) (words : List ℕ) (b : Own) → IsOwn z words b → list_base z ≤ b.at
own_far z words b w = far b.space b.at w.above
  where
    far : (s : Space) (at : ℕ) → space_begin z s ≤ at → list_base z ≤ at
    far Pool at above = omega (arith, above)
    far Lists at above = above

-- where a block of a port's own lies in the pool
pub own_in_pool : (z : Layout) (words : List ℕ) (b : Own) → b.space ≡ Pool → IsOwn z words b → (first_free z ≤ b.at) × (b.at + length b.words ≤ pool_end z) ×
    (b.at + length b.words ≤ slice_index words (pool_counter z))
own_in_pool z words b e w = (
  subst (λ (s : Space). space_begin z s ≤ b.at) e w.above,
  subst (λ (s : Space). b.at + length b.words ≤ end_of z s) e w.within,
  subst (λ (s : Space). b.at + length b.words ≤ slice_index words (counter_of z s)) e w.below,
)

-- who isn't joined has no announcement to cover
pub unjoined_if : (P : ℕ → JoinedAnnouncement → Type 0) (f : Option ClaimedSlot) → joined_in f ≡ None → IfSome f (λ c. IfSome c.joined (P c.slot))
unjoined_if P None e = tt
unjoined_if P (Some c) e = subst (λ (j : Option JoinedAnnouncement). IfSome j (P c.slot)) (sym e) tt
