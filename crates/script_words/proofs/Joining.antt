-- What words say, one word after the other.
use Rattle.std.proofs.Common.{◌≡◌, ℕ, List, [], ◌∷◌, ◌++◌, sym, ap, ◌∙◌, append_assoc, refl, Option, Some, None}
use Rattle.std.specs.List.{concat}
use Rattle.std.specs.Option.{option_map}
use Rattle.std.proofs.lemmas.List.{append-nil}
use Rattle.script_words.specs.Forms.{put_after, both, each, hex_bytes, joined}

-- elements, one for each word
step_each : {X : Type 0} (front : List X) (x : X) (others : Option (List X)) →
    put_after front (both (Some x) others) ≡ put_after (front ++ x ∷ []) others
step_each {X = X} front x (Some xs) = ap (λ (l : List X). Some l) (sym (append_assoc front (x ∷ []) xs))
step_each {X = X} front x None = refl

pub each_more : {X : Type 0} (form : List ℕ → Option X) (front : List X) (x : X) (word : List ℕ) (ws rest : List (List ℕ))
    (whole : Option (List X))
    → ws ≡ word ∷ rest → form word ≡ Some x → put_after front (each form ws) ≡ whole → put_after (front ++ x ∷ []) (each form rest) ≡ whole
unfolding each
each_more form front x word ws rest whole e one so_far =
    let step : put_after front (each form ws) ≡ put_after (front ++ x ∷ []) (each form rest) =
    rw (e, one) (step_each front x (each form rest)) in
    sym step ∙ so_far

pub each_stops : {X : Type 0} (form : List ℕ → Option X) (front : List X) (word : List ℕ) (ws rest : List (List ℕ))
    (whole : Option (List X))
    → ws ≡ word ∷ rest → form word ≡ None → put_after front (each form ws) ≡ whole → whole ≡ None
unfolding each
each_stops form front word ws rest whole e one so_far =
    let step : put_after front (each form ws) ≡ None = rw (e, one) refl in
    sym so_far ∙ step

pub each_ends : {X : Type 0} (form : List ℕ → Option X) (front : List X) (ws : List (List ℕ)) (whole : Option (List X)) → ws ≡ [] →
    put_after front (each form ws) ≡ whole → whole ≡ Some front
unfolding each
each_ends {X = X} form front ws whole e so_far =
    let step : put_after front (each form ws) ≡ Some front = rw e (ap (λ (l : List X). Some l) (append-nil front)) in
    sym so_far ∙ step

-- the bytes of words, joined
step_joined : (front new : List ℕ) (first : Option (List ℕ)) (others : Option (List (List ℕ))) → put_after front first ≡ Some new
    → put_after front (option_map concat (both first others)) ≡ put_after new (option_map concat others)
step_joined front new (Some a) (Some b) e =
    let same : front ++ a ≡ new = cc in
    ap (λ (bytes : List ℕ). Some bytes) (sym (append_assoc front a (concat b)) ∙ ap (λ (bytes : List ℕ). bytes ++ concat b) same)
step_joined front new (Some a) None e = refl
step_joined front new None others e = cc

stop_joined : (front : List ℕ) (first : Option (List ℕ)) (others : Option (List (List ℕ))) → put_after front first ≡ None
    → put_after front (option_map concat (both first others)) ≡ None
stop_joined front (Some a) others e = cc
stop_joined front None others e = refl

pub joined_more : (front new word : List ℕ) (ws rest : List (List ℕ)) (whole : Option (List ℕ)) → ws ≡ word ∷ rest
    → put_after front (hex_bytes word) ≡ Some new → put_after front (joined ws) ≡ whole → put_after new (joined rest) ≡ whole
unfolding joined each
joined_more front new word ws rest whole e one so_far =
    let step : put_after front (joined ws) ≡ put_after new (joined rest) =
    rw e (step_joined front new (hex_bytes word) (each hex_bytes rest) one) in
    sym step ∙ so_far

pub joined_stops : (front word : List ℕ) (ws rest : List (List ℕ)) (whole : Option (List ℕ)) → ws ≡ word ∷ rest
    → put_after front (hex_bytes word) ≡ None → put_after front (joined ws) ≡ whole → whole ≡ None
unfolding joined each
joined_stops front word ws rest whole is one so_far =
    let step : put_after front (joined ws) ≡ None = rw is (stop_joined front (hex_bytes word) (each hex_bytes rest) one) in
    sym so_far ∙ step

pub joined_ends : (front : List ℕ) (ws : List (List ℕ)) (whole : Option (List ℕ)) → ws ≡ [] → put_after front (joined ws) ≡ whole →
    whole ≡ Some front
unfolding joined each
joined_ends front ws whole e so_far =
    let step : put_after front (joined ws) ≡ Some front = rw e (ap (λ (bytes : List ℕ). Some bytes) (append-nil front)) in
    sym so_far ∙ step
