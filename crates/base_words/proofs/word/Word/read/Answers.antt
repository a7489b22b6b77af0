use Rattle.base_words.proofs.Words.{digits_behind}
use Rattle.base_words.proofs.word.Word.read.Goals as goal

pub returns-in_default-read_digits-clause-none : goal.returns-in_default-read_digits-clause-none
returns-in_default-read_digits-clause-none c word spelled =
    c.in_default-read_digits.ensures.none word.digits (digits_behind c.args.text.now _ word.digits spelled)
