-- What was put so far of the lines of a stream, and the state there.
use Rattle.std.proofs.Common.{◌≡◌, ◌∙◌, ℕ, List, [], ◌∷◌, ◌++◌, Option, ap, sym, refl, append_assoc, append-nil, ◌≤◌, length, drop, arith}
use Rattle.std.proofs.lemmas.Grind.{common_steps}
use Rattle.jt_base.specs.Sink.{grown, GrewByPrefix}
use Rattle.debug_model.specs.Signs.{sign_of}
use Rattle.wire_sniff.specs.Sniffed.{Sniffer as Definition, first_sniffer, lines_from, sign_lines, sniffed}
use Rattle.wire_sniff.specs.SniffedText.{text_of_all}
use Rattle.wire_sniff.specs.State.{IsSniffer}
use Rattle.wire_sniff.specs.declared.sniffer.Sniffer.{Sniffer}
use Rattle.wire_sniff.proofs.PutLemmas.{first_failed, grown_none, grown_twice, second_failed, text-append, text-none}

abbrev pub whole_text : List ℕ → List ℕ → List ℕ
whole_text answers signs = text_of_all (lines_from (first_sniffer answers) signs)

pub record Follows (answers signs rest : List ℕ) (sniffer : Sniffer) (was now : Option (List ℕ)) : Type 0 where
  pub at : Definition
  pub is : IsSniffer answers sniffer at
  pub front : List ℕ
  pub cut : whole_text answers signs ≡ front ++ text_of_all (lines_from at rest)
  pub put : now ≡ grown front was

pub follows_none : (answers signs : List ℕ) (sniffer : Sniffer) (was : Option (List ℕ)) → IsSniffer answers sniffer (first_sniffer answers)
    → Follows answers signs signs sniffer was was
follows_none answers signs sniffer was is = record { at = first_sniffer answers; is = is; front = []; cut = refl; put = grown_none was }

lines-cons : (s : Definition) (b : ℕ) (rest : List ℕ) → lines_from s (b ∷ rest) ≡ sign_lines (sign_of b) s ++ lines_from (sniffed (sign_of b) s) rest
unfolding lines_from
lines-cons s b rest = refl

text-cons : (s : Definition) (b : ℕ) (rest : List ℕ)
    → text_of_all (lines_from s (b ∷ rest)) ≡ text_of_all (sign_lines (sign_of b) s) ++ text_of_all (lines_from (sniffed (sign_of b) s) rest)
text-cons s b rest = ap text_of_all (lines-cons s b rest) ∙ text-append (sign_lines (sign_of b) s) (lines_from (sniffed (sign_of b) s) rest)

pub follows_more : (answers signs rest : List ℕ) (b : ℕ) (old new : Sniffer) (was now then : Option (List ℕ)) → Follows answers signs (b ∷ rest) old was now
    → ((s : Definition) → IsSniffer answers old s → IsSniffer answers new (sniffed (sign_of b) s))
    → ((s : Definition) → IsSniffer answers old s → then ≡ grown (text_of_all (sign_lines (sign_of b) s)) now)
    → Follows answers signs rest new was then
follows_more answers signs rest b old new was now then f steps puts = record {
  at = sniffed (sign_of b) f.at;
  is = steps f.at f.is;
  front = f.front ++ text_of_all (sign_lines (sign_of b) f.at);
  cut = f.cut ∙ ap (λ text. f.front ++ text) (text-cons f.at b rest)
      ∙ sym (append_assoc f.front (text_of_all (sign_lines (sign_of b) f.at)) (text_of_all (lines_from (sniffed (sign_of b) f.at) rest)));
  put = grown_twice f.front (text_of_all (sign_lines (sign_of b) f.at)) was now then f.put (puts f.at f.is);
}

pub follows_failed : (answers signs rest : List ℕ) (b : ℕ) (old : Sniffer) (was now then : Option (List ℕ)) → Follows answers signs (b ∷ rest) old was now
    → ((s : Definition) → IsSniffer answers old s → GrewByPrefix (text_of_all (sign_lines (sign_of b) s)) now then)
    → GrewByPrefix (whole_text answers signs) was then
follows_failed answers signs rest b old was now then f fails =
    let here = text_of_all (sign_lines (sign_of b) f.at) in
    let behind = text_of_all (lines_from (sniffed (sign_of b) f.at) rest) in
    let whole : whole_text answers signs ≡ (f.front ++ here) ++ behind =
    f.cut ∙ ap (λ text. f.front ++ text) (text-cons f.at b rest) ∙ sym (append_assoc f.front here behind) in
    rw whole (first_failed (f.front ++ here) behind was then (second_failed f.front here was now then f.put (fails f.at f.is)))

lines-nil : (s : Definition) → lines_from s [] ≡ []
unfolding lines_from
lines-nil s = refl

pub follows_all : (answers signs : List ℕ) (sniffer : Sniffer) (was now : Option (List ℕ)) → Follows answers signs [] sniffer was now
    → now ≡ grown (whole_text answers signs) was
follows_all answers signs sniffer was now f =
    let whole : whole_text answers signs ≡ f.front = f.cut ∙ ap (λ lines. f.front ++ text_of_all lines) (lines-nil f.at)
    ∙ ap (λ text. f.front ++ text) text-none ∙ append-nil f.front in
    f.put ∙ ap (λ text. grown text was) (sym whole)

pub drop_past : (n : ℕ) (xs : List ℕ) → length xs ≤ n → drop n xs ≡ []
drop_past n xs past = grind (arith, common_steps)
