-- What was put so far of a waveform, and the moment there.
use Rattle.std.proofs.Common.{◌≡◌, ◌∙◌, ℕ, ◌+◌, List, [], ◌∷◌, ◌++◌, Option, ap, sym, refl, append_assoc, append-nil}
use Rattle.jt_base.specs.Sink.{grown, GrewByPrefix}
use Rattle.debug_model.specs.Signs.{sign_of}
use Rattle.wire_sniff.specs.State.{IsMoment}
use Rattle.wire_sniff.specs.Waves.{Moment as Definition, first_moment, levels, moment_after, sign_wave, waves_from}
use Rattle.wire_sniff.specs.declared.moment.Moment.{Moment}
use Rattle.wire_sniff.proofs.PutLemmas.{first_failed, grown_twice, second_failed}

abbrev pub whole_wave : List ℕ → List ℕ → List ℕ
whole_wave answers signs = levels (first_moment answers) ++ waves_from 1 (first_moment answers) signs

-- the signs before this place were drawn
pub record Drawn (answers signs : List ℕ) (place : ℕ) (rest : List ℕ) (moment : Moment) (was now : Option (List ℕ)) : Type 0 where
  pub at : Definition
  pub is : IsMoment answers moment at
  pub front : List ℕ
  pub cut : whole_wave answers signs ≡ front ++ waves_from (place + 1) at rest
  pub put : now ≡ grown front was

waves-cons : (time : ℕ) (m : Definition) (b : ℕ) (rest : List ℕ)
    → waves_from time m (b ∷ rest) ≡ sign_wave time (sign_of b) m ++ waves_from (time + 1) (moment_after (sign_of b) m) rest
unfolding waves_from
waves-cons time m b rest = refl

waves-nil : (time : ℕ) (m : Definition) → waves_from time m [] ≡ []
unfolding waves_from
waves-nil time m = refl

pub drawn_none : (answers signs : List ℕ) (moment : Moment) (was now : Option (List ℕ)) → IsMoment answers moment (first_moment answers)
    → now ≡ grown (levels (first_moment answers)) was
    → Drawn answers signs 0 signs moment was now
drawn_none answers signs moment was now is put = record { at = first_moment answers; is = is; front = levels (first_moment answers); cut = refl; put = put }

pub drawn_more : (answers signs rest : List ℕ) (place b : ℕ) (old new : Moment) (was now then : Option (List ℕ))
    → Drawn answers signs place (b ∷ rest) old was now
    → ((m : Definition) → IsMoment answers old m → IsMoment answers new (moment_after (sign_of b) m))
    → ((m : Definition) → IsMoment answers old m → then ≡ grown (sign_wave (place + 1) (sign_of b) m) now)
    → Drawn answers signs (place + 1) rest new was then
drawn_more answers signs rest place b old new was now then d steps puts = record {
  at = moment_after (sign_of b) d.at;
  is = steps d.at d.is;
  front = d.front ++ sign_wave (place + 1) (sign_of b) d.at;
  cut = d.cut ∙ ap (λ text. d.front ++ text) (waves-cons (place + 1) d.at b rest)
      ∙ sym (append_assoc d.front (sign_wave (place + 1) (sign_of b) d.at) (waves_from (place + 1 + 1) (moment_after (sign_of b) d.at) rest));
  put = grown_twice d.front (sign_wave (place + 1) (sign_of b) d.at) was now then d.put (puts d.at d.is);
}

pub drawn_failed : (answers signs rest : List ℕ) (place b : ℕ) (old : Moment) (was now then : Option (List ℕ))
    → Drawn answers signs place (b ∷ rest) old was now
    → ((m : Definition) → IsMoment answers old m → GrewByPrefix (sign_wave (place + 1) (sign_of b) m) now then)
    → GrewByPrefix (whole_wave answers signs) was then
drawn_failed answers signs rest place b old was now then d fails =
    let here = sign_wave (place + 1) (sign_of b) d.at in
    let behind = waves_from (place + 1 + 1) (moment_after (sign_of b) d.at) rest in
    let whole : whole_wave answers signs ≡ (d.front ++ here) ++ behind =
    d.cut ∙ ap (λ text. d.front ++ text) (waves-cons (place + 1) d.at b rest) ∙ sym (append_assoc d.front here behind) in
    rw whole (first_failed (d.front ++ here) behind was then (second_failed d.front here was now then d.put (fails d.at d.is)))

pub drawn_all : (answers signs : List ℕ) (place : ℕ) (moment : Moment) (was now : Option (List ℕ)) → Drawn answers signs place [] moment was now
    → now ≡ grown (whole_wave answers signs) was
drawn_all answers signs place moment was now d =
    let whole : whole_wave answers signs ≡ d.front = d.cut ∙ ap (λ text. d.front ++ text) (waves-nil (place + 1) d.at) ∙ append-nil d.front in
    d.put ∙ ap (λ text. grown text was) (sym whole)
