-- A row whose senders are taken in.
use Rattle.std.proofs.Common.{◌≡◌, ◌≢◌, ℕ, zero, suc, ◌+◌, ◌<◌, ◌≤◌, List, [], ◌∷◌, ◌++◌, length, set, take, get_or, Some, refl, sym, ap}
use Rattle.std.proofs.Common.{◌∙◌, subst, arith, length-append, append_assoc, add-one}
use Rattle.std.specs.Prelude.{slice_get}
use Rattle.std.proofs.lemmas.Option.{slice_get-get_or, slice_get_within}
use Rattle.std.proofs.Math.Seq.{take-append_seam, get_or-append_seam, take-length}
use Rattle.std.proofs.lemmas.List.{append-nil, length-take-le, get_or-take}
use Rattle.std.proofs.Math.ListN.{length-set}
use mathlib.Core.Logic.{dite}
use native.Mathlib.Decide.{ℕ_discrete}
use Rattle.fifo_row.specs.Ends.{Sending, Taking}
use Rattle.fifo_row.specs.Lists.{of_sender, BeginsWith}
use Rattle.excp_system.proofs.Places.{get_set_same, get_set_other, get_seam, some_is}
use Rattle.excp_system.specs.Sites.{ReachedRows, end_of}
use Rattle.excp_system.specs.Fans.{FanState, sent_to}
use Rattle.post_ledger.specs.Rows.{AreDrained, AreEnds, shorter}

-- a beginning as long as the whole is the whole
pub whole : {A : Type 0} (xs ys : List A) → BeginsWith xs ys → length ys ≡ length xs → xs ≡ ys
whole [] [] p e = refl
whole [] (y ∷ ys) p e = absurd (omega arith)
whole (x ∷ xs) [] p e = absurd (omega arith)
whole (x ∷ xs) (y ∷ ys) p e = let rest = whole xs ys (p.0, cc (p.1)) (omega arith) in cc (p.1, rest)

-- the turn t of the loop over the fans
pub record Turn {I : Type 0} (from : I → ℕ) (k t : ℕ) (taken : List I) (old now : List (FanState I)) : Type 0 where
  pub count : length now ≡ length old
  pub before : (j : ℕ) (f : FanState I) → j < t → slice_get old j ≡ Some f → slice_get now j ≡ Some (shorter k f)
  pub after : (j : ℕ) → t ≤ j → slice_get now j ≡ slice_get old j
  pub done : (j : ℕ) (f : FanState I) → j < t → slice_get old j ≡ Some f → of_sender from j taken ≡ sent_to f k

module _ {I : Type 0} (from : I → ℕ) (r : ReachedRows) (k t : ℕ) (taken : List I) (old now : List (FanState I))
    (turn : Turn from k t taken old now) (d : AreDrained from taken k old) (lt : t < length now) (f : FanState I)
    (at : f ≡ get_or now t f) where
  there : slice_get old t ≡ Some f
  there = sym (turn.after t (omega arith)) ∙ (slice_get-get_or now t f lt ∙ ap Some (sym at))

  pub some_end : f.sent ≢ []
  some_end none = absurd (omega (arith, (d t f there).ends, ap length none))

  module _ (f' : FanState I) (s : Sending I)
      (popped : (s ≡ end_of r f.number (length f'.sent) s.sent) × (f ≡ record { number = f'.number; sent = f'.sent ++ s.sent ∷ [] })) where
    left : length f'.sent ≡ k
    left = omega (arith, (d t f there).ends, ap (λ (g : FanState I). length g.sent) popped.1, length-append f'.sent (s.sent ∷ []))

    pub row_is : s.row ≡ r.row k
    row_is = ap (λ (g : Sending I). g.row) popped.0 ∙ ap r.row left

    number_is : s.number ≡ t
    number_is = ap (λ (g : Sending I). g.number) popped.0 ∙ (d t f there).number_is

    last_is : sent_to f k ≡ s.sent
    last_is = ap (λ (g : FanState I). sent_to g k) popped.1
        ∙ (ap (λ j. get_or (f'.sent ++ s.sent ∷ []) j []) (sym left) ∙ get_or-append_seam f'.sent s.sent [] [])

    rest_is : f' ≡ shorter k f
    rest_is = λ i. record {
      number = sym (ap (λ (g : FanState I). g.number) popped.1) i;
      sent = sym (ap (λ (g : FanState I). take k g.sent) popped.1
          ∙ (ap (λ j. take j (f'.sent ++ s.sent ∷ [])) (sym left) ∙ take-append_seam f'.sent (s.sent ∷ []))) i;
    }

    pub next_turn : BeginsWith (of_sender from s.number taken) s.sent → Turn from k (t + 1) taken old (set now t f')
    next_turn begins =
        let begins' : BeginsWith (of_sender from t taken) s.sent = subst (λ j. BeginsWith (of_sender from j taken) s.sent) number_is begins in
        let long : length s.sent ≡ length (of_sender from t taken) = ap length (sym last_is) ∙ (d t f there).drained in
        let mine : of_sender from t taken ≡ s.sent = whole (of_sender from t taken) s.sent begins' long in
        record {
          count = length-set now t f' ∙ turn.count;
          before = λ j g below e. dite (ℕ_discrete j t)
              (λ same.
              let is : g ≡ f = some_is g f (sym e ∙ (ap (slice_get old) same ∙ there)) in
              ap (slice_get (set now t f')) same ∙ (get_set_same now t f' lt ∙ ap Some (rest_is ∙ ap (shorter k) (sym is))))
              (λ ne. get_set_other now t j f' ne ∙ turn.before j g (omega (arith, ne)) e);
          after = λ j above. let ne : j ≢ t = λ same. absurd (omega (arith, same)) in get_set_other now t j f' ne
              ∙ turn.after j (omega arith);
          done = λ j g below e. dite (ℕ_discrete j t)
              (λ same.
              let is : g ≡ f = some_is g f (sym e ∙ (ap (slice_get old) same ∙ there)) in
              ap (λ i. of_sender from i taken) same ∙ (mine ∙ (sym last_is ∙ ap (λ (h : FanState I). sent_to h k) (sym is))))
              (λ ne. turn.done j g (omega (arith, ne)) e);
        }

module _ {I : Type 0} (from : I → ℕ) (k t : ℕ) (taken : List I) (old now : List (FanState I)) (turn : Turn from k t taken old now)
    (end : length old ≤ t) where
  pub all_done : (j : ℕ) (f : FanState I) → slice_get old j ≡ Some f → of_sender from j taken ≡ sent_to f k
  all_done j f e = turn.done j f (omega (arith, slice_get_within old j f e)) e

  pub all_shorter : (j : ℕ) (f : FanState I) → slice_get old j ≡ Some f → slice_get now j ≡ Some (shorter k f)
  all_shorter j f e = turn.before j f (omega (arith, slice_get_within old j f e)) e

-- rows that are joined from the last one on
pub record Rest {I : Type 0} (from : I → ℕ) (takers₀ takers : List (Taking I)) (fans₀ fans : List (FanState I)) : Type 0 where
  pub begins : BeginsWith takers takers₀
  pub count : length fans ≡ length fans₀
  pub fans_are : (t : ℕ) (f : FanState I) → slice_get fans₀ t ≡ Some f → slice_get fans t ≡ Some (shorter (length takers) f)
  pub done : (k t : ℕ) (w : Taking I) (f : FanState I) → length takers ≤ k → slice_get takers₀ k ≡ Some w → slice_get fans₀ t ≡ Some f →
      of_sender from t w.taken ≡ sent_to f k

get_front : {A : Type 0} (xs ys : List A) (k : ℕ) (a : A) → slice_get xs k ≡ Some a → slice_get (xs ++ ys) k ≡ Some a
get_front [] ys k a e = absurd (cc e)
get_front (x ∷ xs) ys zero a e = e
get_front (x ∷ xs) ys (suc k) a e = get_front xs ys k a e

take_less : {A : Type 0} (k : ℕ) (xs : List A) → take k (take (k + 1) xs) ≡ take k xs
take_less zero xs = refl
take_less (suc k) [] = rw add-one refl
take_less (suc k) (x ∷ xs) = rw add-one (ap (λ l. x ∷ l) (ap (λ n. take k (take n xs)) (sym (add-one k)) ∙ take_less k xs))

module _ {I : Type 0} (from : I → ℕ) (r : ReachedRows) (takers₀ : List (Taking I)) (fans₀ : List (FanState I))
    (ends : AreEnds from r takers₀ fans₀) where
  pub rest_init : Rest from takers₀ takers₀ fans₀ fans₀
  rest_init = record {
    begins = ([], append-nil takers₀);
    count = refl;
    fans_are = λ t f e. e
        ∙ ap Some (λ i. record {
          number = f.number;
          sent = sym (ap (λ n. take n f.sent) (sym (ends.numbers t f e).1) ∙ take-length f.sent) i;
        });
    done = λ k t w f le e e'. absurd (omega (arith, slice_get_within takers₀ k w e));
  }

  module _ (before : List (Taking I)) (w : Taking I) (fans : List (FanState I))
      (rest : Rest from takers₀ (before ++ w ∷ []) fans₀ fans) where
    here : slice_get takers₀ (length before) ≡ Some w
    here = ap (λ l. slice_get l (length before)) (sym rest.begins.1) ∙ get_front (before ++ w ∷ []) rest.begins.0 (length before) w
        (get_seam before [] w)

    pub taker_row : w.row ≡ r.row (length before)
    taker_row = ends.rows (length before) w here

    long : length (before ++ w ∷ []) ≡ length before + 1
    long = length-append before (w ∷ [])

    within : length before < length takers₀
    within = slice_get_within takers₀ (length before) w here

    pub rest_drained : AreDrained from w.taken (length before) fans
    rest_drained t f e =
        let lt : t < length fans₀ = omega (arith, slice_get_within fans t f e, rest.count) in
        let f₀ : FanState I = get_or fans₀ t f in
        let old : slice_get fans₀ t ≡ Some f₀ = slice_get-get_or fans₀ t f lt in
        let is : f ≡ shorter (length before + 1) f₀ = some_is f (shorter (length before + 1) f₀)
        (sym e ∙ (rest.fans_are t f₀ old ∙ ap (λ n. Some (shorter n f₀)) long)) in
        let n : (f₀.number ≡ t) × (length f₀.sent ≡ length takers₀) = ends.numbers t f₀ old in
        record {
          number_is = ap (λ (h : FanState I). h.number) is ∙ n.0;
          ends = ap (λ (h : FanState I). length h.sent) is ∙ length-take-le (length before + 1) f₀.sent (omega (arith, n.1, within));
          drained = ap (λ (h : FanState I). length (sent_to h (length before))) is
              ∙ (ap length (get_or-take (length before + 1) f₀.sent (length before) [] (omega arith))
              ∙ ends.drained (length before) t w f₀ here old);
        }

    pub rest_next : (fans' : List (FanState I)) →
        ((t : ℕ) (f : FanState I) → slice_get fans t ≡ Some f → of_sender from t w.taken ≡ sent_to f (length before))
        → ((t : ℕ) (f : FanState I) → slice_get fans t ≡ Some f → slice_get fans' t ≡ Some (shorter (length before) f)) →
        length fans' ≡ length fans
        → Rest from takers₀ before fans₀ fans'
    rest_next fans' all short count = record {
      begins = (w ∷ rest.begins.0, sym (append_assoc before (w ∷ []) rest.begins.0) ∙ rest.begins.1);
      count = count ∙ rest.count;
      fans_are = λ t f e.
          short t (shorter (length before + 1) f) (rest.fans_are t f e ∙ ap (λ n. Some (shorter n f)) long)
          ∙ ap Some (λ i. record { number = f.number; sent = take_less (length before) f.sent i });
      done = λ k t u f le e e'. dite (ℕ_discrete k (length before))
          (λ same.
          let is : w ≡ u = some_is w u (sym here ∙ (ap (slice_get takers₀) (sym same) ∙ e)) in
          let at = rest.fans_are t f e' ∙ ap (λ n. Some (shorter n f)) long in
          ap (λ (v : Taking I). of_sender from t v.taken) (sym is)
          ∙ (all t (shorter (length before + 1) f) at
          ∙ (get_or-take (length before + 1) f.sent (length before) [] (omega arith) ∙ ap (λ j. sent_to f j) (sym same))))
          (λ ne. rest.done k t u f (omega (arith, long, ne)) e e');
    }
