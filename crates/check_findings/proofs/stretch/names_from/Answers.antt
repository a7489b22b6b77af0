use Rattle.std.proofs.Common.{ap, refl, arith}
use Rattle.base_words.specs.Op.{op_of}
use Rattle.check_findings.specs.declared.naming.Naming.{Naming}
use Rattle.check_findings.specs.Idle.{naming_of, words_of}
use Rattle.check_findings.proofs.Namings.{band_named, data_named, nothing_named, past_named}
use Rattle.check_findings.proofs.stretch.names_from.Goals as goal

pub returns-then-d-ge-DRUM-clause-named : goal.returns-then-d-ge-DRUM-clause-named
returns-then-d-ge-DRUM-clause-named c word =
    past_named c.args.pattern (naming_of (op_of c.args.pattern.op)) refl c.args.d c.none.result.from c.none.result.below
    c.none.result.end word c.if-d-ge-DRUM.true c.none.ensures.words

pub returns-in-Nothing-clause-named : goal.returns-in-Nothing-clause-named
returns-in-Nothing-clause-named c word =
    nothing_named c.args.pattern c.of.result c.of.ensures c.args.d c.none-in-Nothing.result.from
    c.none-in-Nothing.result.below c.none-in-Nothing.result.end word c.in-Nothing.is c.none-in-Nothing.ensures.words

pub returns-in-Data-clause-named : goal.returns-in-Data-clause-named
returns-in-Data-clause-named c word =
    data_named c.args.pattern c.of.result c.of.ensures c.args.d c.up_to.result.from c.up_to.result.below
    c.up_to.result.end word c.in-Data.is c.up_to.ensures.from c.up_to.ensures.below c.up_to.ensures.on_drum
    c.up_to.ensures.to

pub returns-in-ReadWords-clause-named : goal.returns-in-ReadWords-clause-named
returns-in-ReadWords-clause-named c word =
    band_named c.args.pattern c.of.result c.of.ensures 1 c.args.d c.in_band.result.from c.in_band.result.below
    c.in_band.result.end word (λ k. ap (λ (one : Naming). words_of one k) c.in-ReadWords.is)
    (omega (arith, c.if-d-ge-DRUM.false)) c.requires c.in_band.ensures.from c.in_band.ensures.below c.in_band.ensures.end

pub returns-in-PunchWords-clause-named : goal.returns-in-PunchWords-clause-named
returns-in-PunchWords-clause-named c word =
    band_named c.args.pattern c.of.result c.of.ensures 27 c.args.d c.in_band-in-PunchWords.result.from
    c.in_band-in-PunchWords.result.below c.in_band-in-PunchWords.result.end word
    (λ k. ap (λ (one : Naming). words_of one k) c.in-PunchWords.is) (omega (arith, c.if-d-ge-DRUM.false)) c.requires
    c.in_band-in-PunchWords.ensures.from c.in_band-in-PunchWords.ensures.below c.in_band-in-PunchWords.ensures.end
