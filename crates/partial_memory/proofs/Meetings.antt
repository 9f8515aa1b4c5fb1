-- Two ports that meet.
use Rattle.partial_memory.proofs.Common.{ℕ, ◌≡◌, ◌+◌, ◌++◌, length, take, met_port, meeting_steps, List, [], ◌∷◌, map, refl, sym, ap, subst, ◌∙◌, AllByRecursion, Me, TableId, Applied, CoreState, About, SeatedPort, AreSeatedOf, IsIn, IsLawfulWith, first_port, having_met, looks, one_in, further_ports, IsResting, Knows, MemoryView, PortView, port_view, Meets, MeetsLawfully}

-- what a port knows of the history that it has seen in a meeting
knows_met : (t : TableId) (n : ℕ) (log : List Applied) (x : SeatedPort) → IsIn log x → Knows (port_view t n (having_met log x))
knows_met t n log x w = record { history = w.fits.history; legal = w.fits.legal; once = w.fits.once; others = w.others }

-- it is between calls yet
pub rests_met : (views after : List (List SeatedPort)) (core : CoreState) (number : ℕ) (log : List Applied) → IsResting views core number → IsIn log (one_in views) →
    after ≡ (having_met log (one_in views) ∷ []) ∷ [] → IsResting after core number
rests_met views after core number log w fit is =
    let y = having_met log (one_in views) in
    let rest : IsResting ((y ∷ []) ∷ []) core number = record {
      one = refl;
      between = record { rest = w.between.rest; like = w.between.like; idle = w.between.idle; sound = w.between.sound };
      ahead = w.ahead;
      layout = w.layout;
      sizes = w.sizes;
      number = w.number;
      fits = fit.fits;
      others = fit.others;
    } in
    subst (λ (v : List (List SeatedPort)). IsResting v core number) (sym is) rest

-- the ports of two seats, and what a look showed them
pub record Looked (x y : SeatedPort) (v : List SeatedPort) : Type 0 where
  pub log : List Applied
  pub is : v ≡ having_met log x ∷ having_met log y ∷ []
  pub first : IsIn log x
  pub second : IsIn log y
  pub lawful : IsLawfulWith x.about log v

pub looked : {S : Type 0} (x y : SeatedPort) (me me' : Me S (List SeatedPort)) (n : ℕ) → me.0 ≡ x ∷ y ∷ [] → looks me n me' → Looked x y me'.0
looked x y me me' n is w =
    let log : List Applied = w.log in
    let each : AllByRecursion (IsIn log) (x ∷ y ∷ []) = subst (AllByRecursion (IsIn log)) is w.each in
    let own : AreSeatedOf w.about (x ∷ y ∷ []) = subst (AreSeatedOf w.about) is w.own in
    record {
      log = log;
      is = w.seen ∙ ap (map (having_met log)) is;
      first = each.0;
      second = each.1.0;
      lawful = subst (λ (o : About). IsLawfulWith o log me'.0) (sym own.0) w.lawful;
    }

pub both_of : (about : About) (x y : SeatedPort) (v : List SeatedPort) → v ≡ x ∷ y ∷ [] → x.about ≡ about → y.about ≡ about → AreSeatedOf about v
both_of about x y v is own own' = subst (AreSeatedOf about) (sym is) (own, (own', tt))

-- what the two ports show then, whose seats have made so many steps before and behind
module _ (t t' u u' : TableId) (n n' k k' : ℕ) (x y : SeatedPort) (v : List SeatedPort) (views views' : List (List SeatedPort)) (p q : PortView) (w : Looked x y v) (seen : port_view t n x ≡ p)
    (seen' : port_view t' n' y ≡ q) (same : u ≡ t) (same' : u' ≡ t') (is : views ≡ first_port v ∷ []) (is' : views' ≡ further_ports v ∷ []) (all : k ≡ n + n' + meeting_steps) (none : k' ≡ 0) where
  first_met : port_view u k (one_in views) ≡ met_port w.log (p.steps + q.steps + meeting_steps) p
  first_met =
      let one : one_in views ≡ having_met w.log x = ap one_in (is ∙ ap (λ (l : List SeatedPort). first_port l ∷ []) w.is) in
      let before : n + n' ≡ p.steps + q.steps = ap (λ (a : PortView). a.steps + n') seen ∙ ap (λ (b : PortView). p.steps + b.steps) seen' in
      ap (port_view u k) one ∙ ap (λ (i : TableId). port_view i k (having_met w.log x)) same ∙ ap (λ m. port_view t m (having_met w.log x)) (all ∙ ap (λ m. m + meeting_steps) before)
      ∙ ap (met_port w.log (p.steps + q.steps + meeting_steps)) seen

  second_met : port_view u' k' (one_in views') ≡ met_port w.log 0 q
  second_met =
      let two : one_in views' ≡ having_met w.log y = ap one_in (is' ∙ ap (λ (l : List SeatedPort). further_ports l ∷ []) w.is) in
      ap (port_view u' k') two ∙ ap (λ (i : TableId). port_view i k' (having_met w.log y)) same' ∙ ap (λ m. port_view t' m (having_met w.log y)) none ∙ ap (met_port w.log 0) seen'

  pub meets : Meets p q (port_view u k (one_in views)) (port_view u' k' (one_in views'))
  meets = record {
    log = w.log;
    first = first_met;
    second = second_met;
    first_seen = subst (λ (a : PortView). a.seen ≡ take (length a.seen) w.log) seen w.first.seen;
    second_seen = subst (λ (b : PortView). b.seen ≡ take (length b.seen) w.log) seen' w.second.seen;
    first_knows = subst Knows (sym first_met) (subst (λ (a : PortView). Knows (met_port w.log (p.steps + q.steps + meeting_steps) a)) seen (knows_met t _ w.log x w.first));
    second_knows = subst Knows (sym second_met) (subst (λ (b : PortView). Knows (met_port w.log 0 b)) seen' (knows_met t' _ w.log y w.second));
  }

-- the meeting was in a lawful state, whose history is the one that both have seen
pub meets_lawfully : (u u' : TableId) (k k' : ℕ) (x y : SeatedPort) (v : List SeatedPort) (views views' : List (List SeatedPort)) (m : MemoryView) → Looked x y v → u ≡ m.table → u' ≡ m.table →
    x.about ≡ m.about →
    views ≡ first_port v ∷ [] → views' ≡ further_ports v ∷ [] → MeetsLawfully m (port_view u k (one_in views)) (port_view u' k' (one_in views'))
meets_lawfully u u' k k' x y v views views' m w same same' own is is' =
    let one : one_in views ≡ having_met w.log x = ap one_in (is ∙ ap (λ (l : List SeatedPort). first_port l ∷ []) w.is) in
    let two : one_in views' ≡ having_met w.log y = ap one_in (is' ∙ ap (λ (l : List SeatedPort). further_ports l ∷ []) w.is) in
    let lawful : IsLawfulWith m.about w.log (having_met w.log x ∷ having_met w.log y ∷ []) =
    subst (IsLawfulWith m.about w.log) w.is (subst (λ (o : About). IsLawfulWith o w.log v) own w.lawful) in
    let met : MeetsLawfully m (port_view m.table k (having_met w.log x)) (port_view m.table k' (having_met w.log y)) = (
      refl,
      record {
        words = lawful.words;
        here = having_met w.log x ∷ having_met w.log y ∷ [];
        others = lawful.others;
        all = lawful.all;
        shown = refl;
        shuffle = lawful.shuffle;
        opened = lawful.opened;
        lawful = lawful.lawful;
      },
    ) in
    let first : port_view m.table k (having_met w.log x) ≡ port_view u k (one_in views) = ap (λ (i : TableId). port_view i k (having_met w.log x)) (sym same) ∙ ap (port_view u k) (sym one) in
    let second : port_view m.table k' (having_met w.log y) ≡ port_view u' k' (one_in views') = ap (λ (i : TableId). port_view i k' (having_met w.log y)) (sym same') ∙ ap (port_view u' k') (sym two) in
    subst (λ (c : PortView). MeetsLawfully m c (port_view u' k' (one_in views'))) first (subst (λ (d : PortView). MeetsLawfully m (port_view m.table k (having_met w.log x)) d) second met)

-- the ports of two seats that came together
pub joined : {S : Type 0} (x y : SeatedPort) (a b m : Me S (List SeatedPort)) → a ≡ (x ∷ [], []) → b ≡ (y ∷ [], []) → m ≡ (a.0 ++ b.0, a.1) → m.0 ≡ x ∷ y ∷ []
joined {S} x y a b m one two is =
    ap (λ (v : Me S (List SeatedPort)). v.0) is ∙ ap (λ (v : Me S (List SeatedPort)). v.0 ++ b.0) one ∙ ap (λ (v : Me S (List SeatedPort)). x ∷ v.0) two
