use Rattle.std.proofs.Common.{◌≡◌, ℕ, ◌+◌, ◌<◌, ◌≤◌, List, [], ◌∷◌, ◌++◌, length, zero, suc, get_or}
use Rattle.std.proofs.Common.{arith}
use Rattle.dpi_lex.specs.declared.token.Token.{Token}
use Rattle.dpi_lex.specs.Lexed.{AreSpans, IsInside}

-- tokens that rise and share no byte are at most as many as the bytes
pub AreSpans-length : (from to : ℕ) (ts : List Token) → AreSpans from to ts → length ts + from ≤ to
AreSpans-length from to [] h = omega arith
AreSpans-length from to (t ∷ ts) h = omega (arith, AreSpans-length t.end to ts h.2)

-- the place where the spans begin isn't past the place where they end
pub AreSpans-le : (from to : ℕ) (ts : List Token) → AreSpans from to ts → from ≤ to
AreSpans-le from to ts h = omega (arith, AreSpans-length from to ts h)

-- each of the tokens has a byte and ends within
pub AreSpans-get_or : (from to : ℕ) (ts : List Token) (i : ℕ) (d : Token) → AreSpans from to ts →
    i < length ts → (text : List ℕ) → length text ≡ to → IsInside text (get_or ts i d)
AreSpans-get_or from to [] i d h lt text is = absurd (omega arith)
AreSpans-get_or from to (t ∷ ts) zero d h lt text is =
    record { some = h.1; within = omega (arith, AreSpans-le t.end to ts h.2) }
AreSpans-get_or from to (t ∷ ts) (suc i) d h lt text is =
    AreSpans-get_or t.end to ts i d h.2 (omega arith) text is

-- nothing changes where the end moves on
pub AreSpans-wider : (from to end : ℕ) (ts : List Token) → AreSpans from to ts → to ≤ end →
    AreSpans from end ts
AreSpans-wider from to end [] h le = omega arith
AreSpans-wider from to end (t ∷ ts) h le = (h.0, h.1, AreSpans-wider t.end to end ts h.2 le)

-- a token behind the others
pub AreSpans-push : (from to : ℕ) (ts : List Token) (t : Token) → AreSpans from to ts →
    to ≤ t.start → t.start < t.end → AreSpans from t.end (ts ++ t ∷ [])
AreSpans-push from to [] t h le lt = (omega arith, lt, omega arith)
AreSpans-push from to (u ∷ ts) t h le lt = (h.0, h.1, AreSpans-push u.end to ts t h.2 le lt)
