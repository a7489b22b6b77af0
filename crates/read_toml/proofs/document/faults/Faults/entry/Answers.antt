use Rattle.read_toml.proofs.Added.{adds_entry}
use Rattle.read_toml.proofs.document.faults.Faults.entry.Goals as goal

pub returns : goal.returns
returns c =
    adds_entry c.args.op _ _ _ _ _ _ _ _ _ c.keys_of-keys.ensures c.form_of-form.ensures c.in_ok-unknown.ensures
    c.in_ok-missing.ensures c.in_ok-plain.ensures c.in_ok-rest.ensures
