-- What every list of calls keeps. Assumes nothing.
use Rattle.rules.specs.Kept.{AlwaysGood, SettingsKept, FairTight}
use Rattle.rules.proofs.AlwaysGood.{always-good}
use Rattle.rules.proofs.SameSetup.{setup_kept}
use Rattle.rules.proofs.Fair.{fair_tight}

pub good-always : AlwaysGood
unfolding AlwaysGood
good-always = always-good

pub settings-kept : SettingsKept
unfolding SettingsKept
settings-kept = setup_kept

pub tight : FairTight
unfolding FairTight
tight = fair_tight
